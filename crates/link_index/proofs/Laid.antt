-- The table of slots, from none to all: one slot more at the head of its chain, and the two slots of a link as the code lays them.
use Prim.Native.Nat.{ℕ, suc, ◌+◌, ◌-◌, ◌*◌, ◌/◌, ◌%◌, ◌≤◌, ◌<◌}
use mathlib.Core.Path.{◌≡◌, sym, subst, ◌∙◌}
use mathlib.Core.Logic.{⊎_elim}
use mathlib.Core.List.{List}
use native.Mathlib.Nat.{eq-or-lt_of_le}
use native.Mathlib.Numerals.{add-one}
use native.Mathlib.Omega.{arith}
use lib.ListN.{length, get_or}
use Rattle.tables.specs.Columns.{link_row}
use Rattle.register.specs.Tables.{row_at}
use Rattle.link_index.specs.Slots.{place_key, place_far, slot_at, next_word, head_word, laid, laid_link, Indexable, Slotted}
use Rattle.chains.proofs.Chains.{chained_none, Pushed, chained_more}
use Rattle.chains.proofs.Pushes.{pushed_room, pushed_other, pushed_row, pushed_next, pushed_head}
use Rattle.link_index.proofs.Ends.{near_same, far_same, key_within}

-- ---- the words of the table with one slot more

module _ (index : List ℕ) (slot key far : ℕ) where
  pub laid_room : length index ≡ 81920 → length (laid index slot key far) ≡ 81920
  laid_room = pushed_room index slot far 8192 (16384 + key)

  laid_other : (k : ℕ) → (k ≡ slot → ⊥) → (k ≡ 8192 + slot → ⊥) → (k ≡ 16384 + key → ⊥) → get_or (laid index slot key far) k 0 ≡ get_or index k 0
  laid_other = pushed_other index slot far 8192 (16384 + key)

  module _ (room : length index ≡ 81920) (s : slot < 8192) (k : key < 65536) where
    laid_far : get_or (laid index slot key far) slot 0 ≡ far
    laid_far = pushed_row index slot far 8192 (16384 + key) (omega arith) (omega arith) (omega arith)

    laid_next : next_word (laid index slot key far) slot ≡ head_word index key
    laid_next = pushed_next index slot far 8192 (16384 + key) (omega arith) (omega arith) (omega arith)

    laid_head : head_word (laid index slot key far) key ≡ suc slot
    laid_head = pushed_head index slot far 8192 (16384 + key) (omega arith) (omega arith) (omega arith)

-- ---- one place more

module _ {m : ℕ} {objects : List ℕ} {n : ℕ} {links : List ℕ} (x : Indexable m objects n links) where
  pub slotted_none : (index : List ℕ) → ((k : ℕ) → get_or index k 0 ≡ 0) → Slotted m objects n links index (2 * n)
  slotted_none index z =
      record {
        far_is = λ p h l. absurd (omega arith);
        chained = chained_none slot_at (place_key m objects links) (2 * n) (next_word index) (head_word index) (λ k. z (16384 + k));
      }

  module _ (index : List ℕ) (room : length index ≡ 81920) (i : ℕ) (h : i < 2 * n) where
    abbrev key : ℕ
    key = place_key m objects links i

    abbrev more : List ℕ
    more = laid index (slot_at i) key (place_far m objects links i)

    few : 2 * n ≤ 8192
    few = omega (arith, x.links_few)

    within : slot_at i < 8192
    within = omega (arith, few)

    keyed : key < 65536
    keyed = key_within x i h

    other : (k : ℕ) → (k ≡ slot_at i → ⊥) → (k ≡ 8192 + slot_at i → ⊥) → (k ≡ 16384 + key → ⊥) → get_or more k 0 ≡ get_or index k 0
    other = laid_other index (slot_at i) key (place_far m objects links i)

    slotted_more : Slotted m objects n links index (suc i) → Slotted m objects n links more i
    slotted_more b = record { far_is = far; chained = chained_more slot_at (place_key m objects links) (2 * n) i b.chained h pushed }
      where
        far : (p : ℕ) → i ≤ p → p < 2 * n → get_or more (slot_at p) 0 ≡ place_far m objects links p
        far p l u =
            ⊎_elim
            (λ (t : i ≡ p). subst (λ y. get_or more (slot_at y) 0 ≡ place_far m objects links y) t (laid_far index (slot_at i) key _ room within keyed))
            (λ (t : i < p). other (slot_at p) (λ e. omega arith) (λ e. omega (arith, few)) (λ e. omega (arith, few)) ∙ b.far_is p t u)
            (eq-or-lt_of_le l)

        pushed : Pushed slot_at (place_key m objects links) (2 * n) i (next_word index) (head_word index) (next_word more) (head_word more)
        pushed =
            record {
              next_own = laid_next index (slot_at i) key _ room within keyed;
              next_other = λ p l u. other (8192 + slot_at p) (λ e. omega (arith, few)) (λ e. omega arith) (λ e. omega (arith, few));
              head_own = laid_head index (slot_at i) key _ room within keyed;
              head_other = λ k d. other (16384 + k) (λ e. omega (arith, within)) (λ e. omega (arith, within)) (λ e. d (omega arith));
            }

    slotted_at : {s k f : ℕ} → slot_at i ≡ s → key ≡ k → place_far m objects links i ≡ f → Slotted m objects n links index (suc i) → Slotted m objects n links (laid index s k f) i
    slotted_at p q r b = rw (← p, ← q, ← r) (slotted_more b)

  -- ---- both places of a link, as the code goes

  module _ (index : List ℕ) (room : length index ≡ 81920) (row : ℕ) {r s t : ℕ} (h : 0 < row) (l : row ≤ n)
      (re : r ≡ (link_row links (row - 1)).relationship)
      (se : s ≡ row_at m objects (link_row links (row - 1)).source)
      (te : t ≡ row_at m objects (link_row links (row - 1)).target)
    where
      abbrev i : ℕ
      i = row - 1

      abbrev forth : ℕ
      forth = 2 * i

      abbrev back : ℕ
      back = 2 * i + 1

      forth_link : forth / 2 ≡ i
      forth_link = omega arith

      back_link : back / 2 ≡ i
      back_link = omega arith

      forth_key : place_key m objects links forth ≡ r * 2 * 1024 + s
      forth_key =
          let even : forth % 2 ≡ 0 = omega arith in
          rw (near_same forth 0 even (link_row links (forth / 2)), forth_link, even, ← re, ← se) (omega arith)

      back_key : place_key m objects links back ≡ (r * 2 + 1) * 1024 + t
      back_key =
          let odd : back % 2 ≡ 1 = omega arith in
          rw (near_same back 1 odd (link_row links (back / 2)), back_link, odd, ← re, ← te) (omega arith)

      forth_far : place_far m objects links forth ≡ t
      forth_far = let even : forth % 2 ≡ 0 = omega arith in rw (far_same forth 0 even (link_row links (forth / 2)), forth_link) (sym te)

      back_far : place_far m objects links back ≡ s
      back_far = let odd : back % 2 ≡ 1 = omega arith in rw (far_same back 1 odd (link_row links (back / 2)), back_link) (sym se)

      pub slotted_link : {table : List ℕ} → table ≡ laid_link index i r s t → Slotted m objects n links index (2 * row) → Slotted m objects n links table (2 * i)
      slotted_link e b =
          let up : 2 * row ≡ suc back = omega arith in
          let at : slot_at back ≡ 4096 + i = omega arith in
          let first = slotted_at index room back (omega arith) at back_key back_far (subst (Slotted m objects n links index) up b) in
          let second = laid index (4096 + i) ((r * 2 + 1) * 1024 + t) s in
          let room2 = laid_room index (4096 + i) ((r * 2 + 1) * 1024 + t) s room in
          rw e (slotted_at second room2 forth (omega arith) (omega arith) forth_key forth_far (subst (Slotted m objects n links second) (add-one (2 * i)) first))
