-- The places of a batch, from none to all: one place more at the head of its chain, and both places of an event.
use Prim.Native.Nat.{ℕ, suc, ◌+◌, ◌*◌, ◌/◌, ◌%◌, ◌≤◌, ◌<◌}
use mathlib.Core.Path.{◌≡◌, refl, ap₂, subst, ◌∙◌}
use mathlib.Core.Logic.{⊎_elim}
use mathlib.Core.List.{List}
use mathlib.Core.Option.{Option, none, some}
use native.Mathlib.Nat.{eq-or-lt_of_le}
use native.Mathlib.Numerals.{add-one}
use native.Mathlib.Omega.{arith}
use lib.ListN.{length, get_or}
use Rattle.meaning.specs.Limits.{max_objects}
use Rattle.tables.specs.Columns.{event_row}
use Rattle.register.specs.Tables.{object_place}
use Rattle.chains.proofs.Chains.{chained_none, Pushed, chained_more}
use Rattle.chains.proofs.Pushes.{pushed_room, pushed_other, pushed_row, pushed_next, pushed_head}
use Rattle.register.proofs.Rows.{place_row_lem}
use Rattle.trace_places.specs.Traces.{named_at, or_past, row_named, place_row, next_place, first_place, itself}
use Rattle.trace_places.specs.Making.{placed, placed_event, Placed}

-- ---- the words of the table with one place more

module _ (trace : List ℕ) (p row : ℕ) where
  pub placed_room : length trace ≡ 16675 → length (placed trace p row) ≡ 16675
  placed_room = pushed_room trace p row 512 (14625 + 2 * row)

  placed_other : (k : ℕ) → (k ≡ p → ⊥) → (k ≡ 512 + p → ⊥) → (k ≡ 14625 + 2 * row → ⊥) → get_or (placed trace p row) k 0 ≡ get_or trace k 0
  placed_other = pushed_other trace p row 512 (14625 + 2 * row)

  module _ (room : length trace ≡ 16675) (h : p < 512) (l : row ≤ 1024) where
    placed_row : get_or (placed trace p row) p 0 ≡ row
    placed_row = pushed_row trace p row 512 (14625 + 2 * row) (omega arith) (omega arith) (omega arith)

    placed_next : next_place (placed trace p row) p ≡ first_place trace row
    placed_next = pushed_next trace p row 512 (14625 + 2 * row) (omega arith) (omega arith) (omega arith)

    placed_first : first_place (placed trace p row) row ≡ suc p
    placed_first = pushed_head trace p row 512 (14625 + 2 * row) (omega arith) (omega arith) (omega arith)

-- ---- one place more

module _ (m : ℕ) (objects events : List ℕ) (few : m ≤ max_objects) where
  -- a row is there, or it is the one past the last
  pub or_past_lem : (o : Option ℕ) → row_named m objects o ≤ 1024
  or_past_lem none = omega arith
  or_past_lem (some id) = step (object_place m objects id) refl
    where
      step : (r : Option ℕ) → object_place m objects id ≡ r → or_past r ≤ 1024
      step none e = omega arith
      step (some i) e = omega (arith, (place_row_lem m objects id e).0)

  abbrev key : ℕ → ℕ
  key = place_row m objects events

  module _ (places : ℕ) (before : List ℕ) where
    pub placed_none : (trace : List ℕ) → ((k : ℕ) → get_or trace k 0 ≡ 0) → Placed m objects events places trace trace places
    placed_none trace z =
        record {
          row_is = λ p h l. absurd (omega arith);
          chained = chained_none itself key places (next_place trace) (first_place trace) (λ k. z (14625 + 2 * k));
          kept = λ k h l. refl;
          no_loss = λ row. refl;
        }

    module _ (trace : List ℕ) (room : length trace ≡ 16675) (i : ℕ) (h : i < places) (fits : places ≤ 512) where
      abbrev more : List ℕ
      more = placed trace i (key i)

      within : i < 512
      within = omega arith

      keyed : key i ≤ 1024
      keyed = or_past_lem (named_at (event_row events (i / 2)) (i % 2))

      other : (k : ℕ) → (k ≡ i → ⊥) → (k ≡ 512 + i → ⊥) → (k ≡ 14625 + 2 * key i → ⊥) → get_or more k 0 ≡ get_or trace k 0
      other = placed_other trace i (key i)

      pub placed_more : Placed m objects events places before trace (suc i) → Placed m objects events places before more i
      placed_more b =
          record {
            row_is = row;
            chained = chained_more itself key places i b.chained h pushed;
            kept = λ k l u. other k (λ e. omega (arith, within)) (λ e. omega (arith, within)) (λ e. omega arith) ∙ b.kept k l u;
            no_loss = λ k. other (14626 + 2 * k) (λ e. omega (arith, within)) (λ e. omega (arith, within)) (λ e. omega arith) ∙ b.no_loss k;
          }
        where
          row : (p : ℕ) → i ≤ p → p < places → get_or more p 0 ≡ key p
          row p l u =
              ⊎_elim
              (λ (t : i ≡ p). subst (λ y. get_or more y 0 ≡ key y) t (placed_row trace i (key i) room within keyed))
              (λ (t : i < p). other p (λ e. omega arith) (λ e. omega arith) (λ e. omega arith) ∙ b.row_is p t u)
              (eq-or-lt_of_le l)

          pushed : Pushed itself key places i (next_place trace) (first_place trace) (next_place more) (first_place more)
          pushed =
              record {
                next_own = placed_next trace i (key i) room within keyed;
                next_other = λ p l u. other (512 + p) (λ e. omega (arith, within)) (λ e. omega arith) (λ e. omega arith);
                head_own = placed_first trace i (key i) room within keyed;
                head_other = λ k d. other (14625 + 2 * k) (λ e. omega (arith, within)) (λ e. omega (arith, within)) (λ e. d (omega arith));
              }

    -- both places of an event, as the code goes
    pub placed_event_lem : (trace : List ℕ) → length trace ≡ 16675 → (i : ℕ) → 2 * i + 2 ≤ places → places ≤ 512 → Placed m objects events places before trace (2 * suc i) → Placed m objects events places before (placed_event m objects events i trace) (2 * i)
    placed_event_lem trace room i h fits b =
        let up : 2 * suc i ≡ suc (2 * i + 1) = omega arith in
        let second = placed_more trace room (2 * i + 1) (omega arith) fits (subst (Placed m objects events places before trace) up b) in
        let next = placed trace (2 * i + 1) (key (2 * i + 1)) in
        placed_more next (placed_room trace (2 * i + 1) (key (2 * i + 1)) room) (2 * i) (omega arith) fits (subst (Placed m objects events places before next) (add-one (2 * i)) second)

  -- the rows of both places, as the code finds them
  pub placed_both : (i : ℕ) (trace : List ℕ) {a b : ℕ} {half whole : List ℕ} → a ≡ row_named m objects (named_at (event_row events i) 1) → b ≡ row_named m objects (named_at (event_row events i) 0)
      → half ≡ placed trace (i * 2 + 1) a → whole ≡ placed half (i * 2) b → whole ≡ placed_event m objects events i trace
  placed_both i trace {a} {b} second first e f =
      let name : ℕ → ℕ → ℕ = λ x y. row_named m objects (named_at (event_row events x) y) in
      let back : i * 2 + 1 ≡ 2 * i + 1 = omega arith in
      let forth : i * 2 ≡ 2 * i = omega arith in
      let back_event : i ≡ (2 * i + 1) / 2 = omega arith in
      let forth_event : i ≡ 2 * i / 2 = omega arith in
      let odd : 1 ≡ (2 * i + 1) % 2 = omega arith in
      let even : 0 ≡ 2 * i % 2 = omega arith in
      let a_is : a ≡ key (2 * i + 1) = second ∙ ap₂ name back_event odd in
      let b_is : b ≡ key (2 * i) = first ∙ ap₂ name forth_event even in
      f ∙ (λ k. placed (e k) (forth k) (b_is k)) ∙ (λ k. placed (placed trace (back k) (a_is k)) (2 * i) (key (2 * i)))
