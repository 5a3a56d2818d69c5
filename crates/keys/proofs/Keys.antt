-- Rows by their keys. A row is compared with a key column by column, and a search halves the rows in which the key's place lies.
use Prim.Native.Nat.{ℕ, suc, ◌+◌, ◌-◌, ◌≤◌, ◌<◌, zero-le}
use mathlib.Core.Path.{◌≡◌, sym, ap, subst, ◌∙◌}
use mathlib.Core.Logic.{⊎_elim}
use mathlib.Core.Bool.{Bool, true, false, ◌&&◌, ◌||◌, not, or-false}
use mathlib.Core.List.{List}
use native.Mathlib.Nat.{le_refl, le_of_eq, eq-or-lt_of_le, sub-zero}
use native.Mathlib.Numerals.{add-one}
use native.Mathlib.Omega.{arith}
use lib.Dec.{T, ltb, eqb}
use lib.ListN.{length, get_or, drop, drop_of_length-le}
use lib.Seq.{drop-cons}
use mir.Facts.{T_not, not_T}
use borrow.Author.Tests.{le-ltb, eq-eqb, ne_eqb}
use Rattle.meaning.specs.Lists.{before}
use Rattle.meaning.proofs.Order.{before_transitive}
use Rattle.rows.specs.Rows.{rows_from, read_rows}
use Rattle.keys.specs.Keys.{KeysAscend, LowerBound}

-- ---- column by column

module _ (read : ℕ → ℕ) (columns : ℕ) (key : List ℕ) where
  -- what the columns from one on say
  unfoldable pub before_from : ℕ → Bool
  before_from column = before (rows_from read column (columns - column)) (drop column key)

  pub before_start : before (read_rows read columns) key ≡ before_from 0
  unfolding before_from
  before_start = ap (λ m. before (rows_from read 0 m) key) (sym (sub-zero columns))

  module _ {column : ℕ} (h : column < columns) where
    one_more : columns - column ≡ suc (columns - suc column)
    one_more = omega arith

    -- past the key's last number
    pub before_short : length key ≤ column → before_from column ≡ false
    unfolding before_from
    before_short l = rw (one_more, drop_of_length-le key l)

    -- w is the word of the column
    module _ (l : column < length key) {w : ℕ} (e : w ≡ read column) where
      column_step : before_from column ≡ (ltb w (get_or key column 0) || (eqb w (get_or key column 0) && before_from (suc column)))
      unfolding before_from
      column_step = rw (one_more, drop-cons key column 0, e)

      pub before_differs : (w ≡ get_or key column 0 → ⊥) → before_from column ≡ ltb w (get_or key column 0)
      before_differs d = column_step ∙ rw (ne_eqb _ _ d) (or-false (ltb w (get_or key column 0)))

      pub before_alike : w ≡ get_or key column 0 → before_from column ≡ before_from (column + 1)
      before_alike q = column_step ∙ rw (le-ltb _ _ (le_of_eq (sym q)), eq-eqb _ _ q, add-one)

  pub before_end : {column : ℕ} → columns ≤ column → before_from column ≡ false
  unfolding before_from
  before_end {column} h = let none : columns - column ≡ 0 = omega arith in rw none

-- ---- a search

module _ (key : ℕ → List ℕ) (n : ℕ) (k : List ℕ) where
  -- the place of k lies from row low to row high
  pub record Bracket (low high : ℕ) : Type 0 where
    pub low_high : low ≤ high
    pub high_end : high ≤ n
    pub below : (i : ℕ) → i < low → T (before (key i) k)
    pub above : (i : ℕ) → high ≤ i → i < n → T (not (before (key i) k))

  pub bracket_start : Bracket 0 n
  bracket_start = record { low_high = zero-le; high_end = le_refl n; below = λ i h. absurd (omega arith); above = λ i h l. absurd (omega arith) }

  pub bracket_end : {low high : ℕ} → Bracket low high → high ≤ low → LowerBound key n k low
  bracket_end b h = record { within = omega arith; below = b.below; above = λ i l. b.above i (omega arith) }

  module _ (a : KeysAscend key n) {low high : ℕ} (b : Bracket low high) (middle : ℕ) (lm : low ≤ middle) (mh : middle < high) where
    pub bracket_up : before (key middle) k ≡ true → Bracket (middle + 1) high
    bracket_up e = record { low_high = omega arith; high_end = b.high_end; below = lower; above = b.above }
      where
        t : T (before (key middle) k)
        t = subst T (sym e) tt

        lower : (i : ℕ) → i < middle + 1 → T (before (key i) k)
        lower i h =
            let l : i ≤ middle = omega arith in
            ⊎_elim
            (λ (q : i ≡ middle). subst (λ m. T (before (key m) k)) (sym q) t)
            (λ (q : i < middle). before_transitive (key i) (key middle) k (a i middle q (omega (arith, b.high_end))) t)
            (eq-or-lt_of_le l)

    pub bracket_down : before (key middle) k ≡ false → Bracket low middle
    bracket_down e = record { low_high = lm; high_end = omega (arith, b.high_end); below = b.below; above = upper }
      where
        t : T (not (before (key middle) k))
        t = subst (λ v. T (not v)) (sym e) tt

        upper : (i : ℕ) → middle ≤ i → i < n → T (not (before (key i) k))
        upper i h l =
            ⊎_elim
            (λ (q : middle ≡ i). subst (λ m. T (not (before (key m) k))) q t)
            (λ (q : middle < i). not_T (before (key i) k) (λ u. T_not (before (key middle) k) (before_transitive (key middle) (key i) k (a middle i q l) u) t))
            (eq-or-lt_of_le h)
