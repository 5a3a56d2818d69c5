-- The rows of a table that ascend by their keys, after a row is put in at its place, taken out, or changed: once for objects and links.
use Prim.Native.Nat.{ℕ, suc, ◌+◌, ◌*◌, ◌≤◌, ◌<◌}
use mathlib.Core.Path.{◌≡◌, sym, ap, subst, ◌∙◌}
use mathlib.Core.Logic.{⊎_elim}
use mathlib.Core.Bool.{Bool, not, cond}
use mathlib.Core.List.{List, map}
use mathlib.Core.Option.{none}
use native.Mathlib.Nat.{le_refl, eq-or-lt_of_le}
use native.Mathlib.Numerals.{add-one}
use native.Mathlib.Omega.{arith}
use lib.Dec.{T, ltb, eqb}
use lib.ListN.{length, get_or}
use mir.Facts.{not_T, T_not, ltb_yes, ltb_no, eqb_yes, eqb_no}
use Rattle.meaning.specs.Lists.{before, keep, put_in_order, Ascending, Before}
use Rattle.meaning.proofs.Lists.{decide, cond_yes, cond_no}
use Rattle.meaning.proofs.Order.{before_irreflexive, before_total, fault_none}
use Rattle.rows.specs.Rows.{word_at, read_rows, without_row}
use Rattle.keys.specs.Keys.{LowerBound}
use Rattle.rows.proofs.Moves.{inserted, inserted_before, inserted_row, inserted_after, without_before, without_after}
use Rattle.rows.proofs.Listed.{rows_map, rows_placed, rows_without}
use Rattle.schema.proofs.Rows.{row_there}
use Rattle.register.proofs.Hits.{alone, first_hit}
use Rattle.register.proofs.Places.{ordered}

-- a row is read by its words alone
abbrev pub ByWords : {A : Type 0} → ℕ → (List ℕ → ℕ → A) → Type 0
ByWords width read = (t u : List ℕ) (i j : ℕ) → ((c : ℕ) → c < width → word_at t width i c ≡ word_at u width j c) → read t i ≡ read u j

module _ {A : Type 0} (width : ℕ) (read : List ℕ → ℕ → A) (by_words : ByWords width read) (t : List ℕ) (n r : ℕ) where
  -- ---- put in

  module _
      (key : A → List ℕ)
      (one_length : (x y : A) → length (key x) ≡ length (key y))
      (words : List ℕ)
      (full : length words ≡ width)
      (room : (n + 1) * width ≤ length t)
      (x : A)
      (own : read words 0 ≡ x)
      (b : LowerBound (λ i. key (read t i)) n (key x) r)
      (absent : (i : ℕ) → i < n → key (read t i) ≡ key x → ⊥)
    where
      abbrev grown : List ℕ
      grown = inserted t width r n words

      own_row : read grown r ≡ x
      own_row =
          by_words grown words r 0
          (λ c h. inserted_row t width r n words b.within room full c h ∙ ap (λ k. get_or words k 0) (omega arith)) ∙ own

      above : r < n → T (before (key x) (key (read t r)))
      above h =
          ⊎_elim (λ u. u)
          (⊎_elim (λ (e : key x ≡ key (read t r)). absurd (absent r h (sym e))) (λ u. absurd (T_not (before (key (read t r)) (key x)) u (b.above r (le_refl r) h))))
          (before_total (key x) (key (read t r)) (one_length x (read t r)))

      pub row_put_in : read_rows (read grown) (n + 1) ≡ put_in_order key x (read_rows (read t) n)
      row_put_in =
          ap (read_rows (read grown)) (add-one n)
          ∙ sym
          (rows_placed (read t) (read grown) r n
          (λ i h. by_words grown t i i (λ c k. inserted_before t width r n words b.within room full i c h k))
          key x own_row
          (λ i l h. by_words grown t (suc i) i (λ c k. inserted_after t width r n words b.within room full i c l h k))
          b.below above b.within)

  -- ---- taken out or changed: row r alone passes the test

  module _
      (key : A → List ℕ)
      (a : Ascending (Before key) (read_rows (read t) n))
      (hit : A → Bool)
      (k : List ℕ)
      (exact : (x : A) → T (hit x) → key x ≡ k)
      (h : r < n)
      (own : T (hit (read t r)))
    where
      others : (i : ℕ) → i < n → (i ≡ r → ⊥) → T (not (hit (read t i)))
      others i l d =
          not_T (hit (read t i))
          (λ u.
          let same : key (read t i) ≡ key (read t r) = exact (read t i) u ∙ sym (exact (read t r) own) in
          ⊎_elim
          (λ (q : T (ltb i r)). before_irreflexive (key (read t r)) (subst (λ v. T (before v (key (read t r)))) same (ordered key (read t) n a (ltb_yes q) h)))
          (λ (q : T (not (ltb i r))).
          ⊎_elim
          (λ (e : r ≡ i). d (sym e))
          (λ (m : r < i). before_irreflexive (key (read t r)) (subst (λ v. T (before (key (read t r)) v)) same (ordered key (read t) n a m l)))
          (eq-or-lt_of_le (ltb_no q)))
          (decide (ltb i r)))

      pub row_taken_out : n * width ≤ length t → (left : ℕ) → suc left ≡ n → read_rows (read (without_row t width r n)) left ≡ keep (λ x. not (hit x)) (read_rows (read t) n)
      row_taken_out lent left e =
          sym
          (rows_without (read t) (read (without_row t width r n)) r n
          (λ i l. by_words (without_row t width r n) t i i (λ c b. without_before t width r n h lent i c l b))
          hit
          (λ i l m. by_words (without_row t width r n) t i (suc i) (λ c b. without_after t width r n h lent i c l m b))
          own others left e h)

      pub row_changed : (change : A → A) (u : List ℕ) → ((i c : ℕ) → (i ≡ r → ⊥) → c < width → word_at u width i c ≡ word_at t width i c) → read u r ≡ change (read t r)
          → read_rows (read u) n ≡ map (λ x. cond (hit x) (change x) x) (read_rows (read t) n)
      row_changed change u same changed = rows_map (read t) (read u) (λ x. cond (hit x) (change x) x) 0 n (λ i l m. each i (omega arith))
        where
          each : (i : ℕ) → i < n → read u i ≡ cond (hit (read t i)) (change (read t i)) (read t i)
          each i l =
              ⊎_elim
              (λ (q : T (eqb i r)).
              let here : i ≡ r = eqb_yes q in
              ap (read u) here ∙ changed ∙ sym (cond_yes (hit (read t r)) (change (read t r)) (read t r) own)
              ∙ ap (λ j. cond (hit (read t j)) (change (read t j)) (read t j)) (sym here))
              (λ (q : T (not (eqb i r))).
              by_words u t i i (λ c b. same i c (eqb_no q) b) ∙ sym (cond_no (hit (read t i)) (change (read t i)) (read t i) (others i l (eqb_no q))))
              (decide (eqb i r))

-- what no row passes
pub missed_all : {A : Type 0} (hit : A → Bool) (read : ℕ → A) (n : ℕ) → first_hit hit read n ≡ none → (i : ℕ) → i < n → T (not (hit (read i)))
missed_all hit read n e i h = (fault_none (alone hit) (read_rows read n) e i (read i) (row_there read n i h)).1
