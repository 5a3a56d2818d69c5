-- What an inspection marks, and what the events mark of the touched rules, are the selected pairs.
use Prim.Native.Nat.{ℕ, zero, suc, ◌+◌, ◌≤◌, ◌<◌}
use mathlib.Core.Path.{◌≡◌, refl, sym, ap, ap₂, ◌∙◌}
use mathlib.Core.Logic.{⊎_elim}
use mathlib.Core.Bool.{Bool, true, false, ◌&&◌, ◌||◌, not, cond}
use mathlib.Core.List.{List, [], ◌∷◌}
use native.Mathlib.Nat.{eq-or-lt_of_le}
use native.Mathlib.Omega.{arith}
use borrow.Author.Tests.{lt-ltb, eq-eqb, ne_eqb, ltb-true, ltb-false}
use lib.Dec.{T, ltb, eqb}
use lib.ListN.{length, get_or, length-map}
use Rattle.meaning.specs.Lists.{is_empty, any, keep}
use Rattle.meaning.specs.Limits.{max_objects}
use Rattle.meaning.specs.Schema.{Schema}
use Rattle.meaning.specs.Reach.{Step, Change, inspection, events_select, selected, selected_pairs}
use Rattle.meaning.specs.EventList.{touched}
use Rattle.meaning.proofs.Lists.{keep_all}
use Rattle.meaning.proofs.Touched.{inspection_selects, others_select}
use Rattle.rows.specs.Rows.{rows_from, read_rows}
use Rattle.tables.specs.Layouts.{Sheet}
use Rattle.tables.specs.Columns.{rule_row, event_row, types_of, book_of}
use Rattle.tables.specs.declared.Counts.{Counts}
use Rattle.schema.proofs.Rows.{length_rows}
use Rattle.register.specs.Tables.{ObjectsAscend}
use Rattle.walks.specs.Site.{id_in}
use Rattle.pair_marks.specs.Marks.{marked}
use Rattle.pair_marks.proofs.Words.{no_marks}
use Rattle.pair_list.specs.Pairs.{pairs_where, marked_pairs}
use Rattle.selection.specs.Selected.{by_events, in_context, Added}
use Rattle.selection.proofs.Pairs.{pairs_same, pairs_kept, at_end, every_rule}
use Rattle.batch_selection.specs.Ended.{Ended, touched_rules, Selects}

-- ---- the rules that are taken

-- a number that is not among some is none of those taken
not_taken : (may : ℕ → Bool) (i j k : ℕ) → ((x : ℕ) → j ≤ x → x < j + k → i ≡ x → ⊥) → any (eqb i) (keep may (rows_from (λ x. x) j k)) ≡ false
not_taken may i j zero other = refl
not_taken may i j (suc k) other = step (may j) (not_taken may i (suc j) k (λ x low less. other x (omega arith) (omega arith)))
  where
    step : (b : Bool) → any (eqb i) (keep may (rows_from (λ x. x) (suc j) k)) ≡ false → any (eqb i) (cond b (j ∷ keep may (rows_from (λ x. x) (suc j) k)) (keep may (rows_from (λ x. x) (suc j) k))) ≡ false
    step true rest = ap₂ (λ a b. a || b) (ne_eqb i j (other j (omega arith) (omega arith))) rest
    step false rest = rest

-- and one that is among them is taken by its test
taken_by : (may : ℕ → Bool) (i j k : ℕ) → j ≤ i → i < j + k → any (eqb i) (keep may (rows_from (λ x. x) j k)) ≡ may i
taken_by may i j zero low less = absurd (omega arith)
taken_by may i j (suc k) low less =
    ⊎_elim
    (λ (e : j ≡ i). own (may j) refl e (not_taken may i (suc j) k (λ x l h q. omega arith)))
    (λ (on : j < i). other (may j) (ne_eqb i j (λ e. omega arith)) (taken_by may i (suc j) k (omega arith) (omega arith)))
    (eq-or-lt_of_le low)
  where
    own : (b : Bool) → may j ≡ b → j ≡ i → any (eqb i) (keep may (rows_from (λ x. x) (suc j) k)) ≡ false
        → any (eqb i) (cond b (j ∷ keep may (rows_from (λ x. x) (suc j) k)) (keep may (rows_from (λ x. x) (suc j) k))) ≡ may i
    own true q e rest = ap (λ a. a || any (eqb i) (keep may (rows_from (λ x. x) (suc j) k))) (eq-eqb i j (sym e)) ∙ sym q ∙ ap may e
    own false q e rest = rest ∙ sym q ∙ ap may e

    other : (b : Bool) → eqb i j ≡ false → any (eqb i) (keep may (rows_from (λ x. x) (suc j) k)) ≡ may i
        → any (eqb i) (cond b (j ∷ keep may (rows_from (λ x. x) (suc j) k)) (keep may (rows_from (λ x. x) (suc j) k))) ≡ may i
    other true q rest = ap (λ a. a || any (eqb i) (keep may (rows_from (λ x. x) (suc j) k))) q ∙ rest
    other false q rest = rest

-- every number is taken
pub all_of : (m : ℕ) → read_rows (λ x. x) m ≡ keep (λ x. true) (read_rows (λ x. x) m)
all_of m = sym (keep_all (λ x. true) (read_rows (λ x. x) m) (λ x h. tt))

-- ---- no event, or some

is_empty_lem : {A : Type 0} (l : List A) → length l ≡ 0 → T (is_empty l)
is_empty_lem [] e = tt
is_empty_lem (x ∷ l) e = absurd (omega arith)

not_empty : {A : Type 0} (l : List A) → 0 < length l → T (not (is_empty l))
not_empty [] h = absurd (omega arith)
not_empty (x ∷ l) h = tt

module _ {c : Change} {n : Counts} {s : Sheet} {met losses : List ℕ} {lost : ℕ} (e : Ended c n s met lost losses) where
  steps_are : length c.steps ≡ n.events
  steps_are = sym (length-map c.steps (λ (x : Step). x.event)) ∙ ap length e.seen.events_are ∙ length_rows (event_row s.events) n.events

  pub no_event_lem : n.events ≡ 0 → T (inspection c)
  unfolding inspection
  no_event_lem h = is_empty_lem c.steps (steps_are ∙ h)

  pub some_event : 0 < n.events → T (not (inspection c))
  unfolding inspection
  some_event h = not_empty c.steps (omega (arith, steps_are))

  -- ---- the pairs

  module _ (ascend : ObjectsAscend n.objects s.objects) where
    abbrev chosen : ℕ → ℕ → Bool
    chosen i row = selected c (rule_row s.rules s.bodies i) (id_in s.objects row)

    pairs_are : pairs_where s.objects chosen n.objects (read_rows (λ x. x) n.rules) ≡ selected_pairs (book_of n s) c
    pairs_are =
        every_rule c s.objects n.objects s.links n.links e.seen.end_is ascend (book_of n s) n.rules s.rules s.bodies refl (ap (λ (S : Schema). S.types) (sym e.schema_is))

    -- the marked pairs are the selected ones
    pub marked_pairs_lem : n.objects ≤ max_objects → {marks : List ℕ} {count : ℕ} → Selects c n s marks count → marked_pairs n s.objects marks ≡ selected_pairs (book_of n s) c
    marked_pairs_lem few {marks} w =
        pairs_same s.objects n.objects (marked marks) chosen 0 n.rules
        (λ x row h low. w.each x row (omega arith) ∙ ap₂ (λ a b. a && (b && chosen x row)) (lt-ltb x n.rules (omega arith)) (lt-ltb row n.objects low))
        ∙ pairs_are

    -- those of rules that may have one, at the rows at which a test holds, if that is to be selected
    module _ (test : ℕ → ℕ → Bool) (may : ℕ → Bool) (same : (i row : ℕ) → i < n.rules → row < n.objects → (may i && test i row) ≡ chosen i row)
        {before after : List ℕ} {count : ℕ} (none : (k : ℕ) → get_or before k 0 ≡ 0) where
      selects : Added s.objects test n.objects (keep may (read_rows (λ x. x) n.rules)) before after count → Selects c n s after count
      selects w =
          record {
            each = λ i row h.
                w.each i row h
                ∙ ap (λ b. b || (any (eqb i) (keep may (read_rows (λ x. x) n.rules)) && (ltb row n.objects && test i row))) (no_marks before none i row)
                ∙ step i row (ltb i n.rules) (ltb row n.objects) refl refl;
            number =
                w.number
                ∙ ap length (pairs_kept s.objects n.objects test may 0 n.rules ∙ pairs_same s.objects n.objects (λ i row. may i && test i row) chosen 0 n.rules (λ i row h low. same i row (omega arith) low) ∙ pairs_are);
          }
        where
          off : (b : Bool) → (b && false) ≡ false
          off true = refl
          off false = refl

          step : (i row : ℕ) (a b : Bool) → ltb i n.rules ≡ a → ltb row n.objects ≡ b
              → (any (eqb i) (keep may (read_rows (λ x. x) n.rules)) && (b && test i row)) ≡ (a && (b && chosen i row))
          step i row false b p q = ap (λ a. a && (b && test i row)) (not_taken may i 0 n.rules (λ x low less e. omega (arith, ltb-false i n.rules p)))
          step i row true false p q = off (any (eqb i) (keep may (read_rows (λ x. x) n.rules)))
          step i row true true p q =
              let h = ltb-true i n.rules p in
              ap (λ a. a && test i row) (taken_by may i 0 n.rules (omega arith) (omega arith)) ∙ same i row h (ltb-true row n.objects q)

    module _ {before after : List ℕ} {count : ℕ} (none : (k : ℕ) → get_or before k 0 ≡ 0) where
      pub by_inspection : T (inspection c) → Added s.objects (in_context (types_of n.types s.types) s.rules s.objects) n.objects (keep (λ x. true) (read_rows (λ x. x) n.rules)) before after count
          → Selects c n s after count
      unfolding rule_row
      by_inspection empty w =
          selects (in_context (types_of n.types s.types) s.rules s.objects) (λ x. true)
          (λ i row h low.
          let r = rule_row s.rules s.bodies i in
          ap (λ ts. in_context ts s.rules s.objects i row) (sym e.seen.types_are)
          ∙ sym (inspection_selects c empty r (id_in s.objects row) ∙ at_end c s.objects n.objects s.links n.links e.seen.end_is ascend r row low))
          none w

      pub by_its_events : T (not (inspection c)) → Added s.objects (by_events c s.rules s.bodies s.objects) n.objects (touched_rules c n s) before after count → Selects c n s after count
      by_its_events events w =
          selects (by_events c s.rules s.bodies s.objects) (λ i. touched c (rule_row s.rules s.bodies i))
          (λ i row h low. only i row (touched c (rule_row s.rules s.bodies i)) (e.untouched i h) ∙ sym (others_select c events (rule_row s.rules s.bodies i) (id_in s.objects row)))
          none w
        where
          only : (i row : ℕ) (b : Bool) → (b ≡ false → (id : ℕ) → events_select c (rule_row s.rules s.bodies i) id ≡ false)
              → (b && by_events c s.rules s.bodies s.objects i row) ≡ by_events c s.rules s.bodies s.objects i row
          only i row true untouched = refl
          only i row false untouched = sym (untouched refl (id_in s.objects row))
