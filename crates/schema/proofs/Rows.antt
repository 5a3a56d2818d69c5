-- Rows that are read by their numbers: how many there are, and the row at a number.
use Prim.Native.Nat.{ℕ, zero, suc, ◌+◌, ◌≤◌, ◌<◌}
use mathlib.Core.Path.{◌≡◌, refl, sym, ap, ◌∙◌}
use mathlib.Core.Logic.{⊎_elim}
use mathlib.Core.Bool.{not, cond}
use mathlib.Core.Option.{some}
use native.Mathlib.Nat.{zero-add}
use native.Mathlib.Omega.{arith}
use lib.Dec.{T, ltb}
use lib.ListN.{length, get_or, get_elem?, get_or-eq_default}
use mir.Facts.{ltb_yes, ltb_no}
use Rattle.meaning.proofs.Lists.{decide, cond_yes, cond_no}
use Rattle.rows.specs.Rows.{rows_from, read_rows}

module _ {A : Type 0} (read : ℕ → A) where
  length_from : (j n : ℕ) → length (rows_from read j n) ≡ n
  length_from j zero = refl
  length_from j (suc n) = ap suc (length_from (suc j) n)

  pub length_rows : (n : ℕ) → length (read_rows read n) ≡ n
  length_rows n = length_from 0 n

  element_from : (j n i : ℕ) → i < n → get_elem? (rows_from read j n) i ≡ some (read (j + i))
  element_from j zero i h = absurd (omega arith)
  element_from j (suc n) zero h = ap (λ k. some (read k)) (omega arith)
  element_from j (suc n) (suc i) h = element_from (suc j) n i (omega arith) ∙ ap (λ k. some (read k)) (omega arith)

  pub row_there : (n i : ℕ) → i < n → get_elem? (read_rows read n) i ≡ some (read i)
  row_there n i h = element_from 0 n i h ∙ ap (λ k. some (read k)) (zero-add i)

  from_at : (j n i : ℕ) (d : A) → i < n → get_or (rows_from read j n) i d ≡ read (j + i)
  from_at j zero i d h = absurd (omega arith)
  from_at j (suc n) zero d h = ap read (omega arith)
  from_at j (suc n) (suc i) d h = from_at (suc j) n i d (omega arith) ∙ ap read (omega arith)

  pub row_at_lem : (n i : ℕ) (d : A) → i < n → get_or (read_rows read n) i d ≡ read i
  row_at_lem n i d h = from_at 0 n i d h ∙ ap read (zero-add i)

  row_past : (n i : ℕ) (d : A) → n ≤ i → get_or (read_rows read n) i d ≡ d
  row_past n i d h = get_or-eq_default (read_rows read n) d (omega (arith, length_rows n))

  -- a column f of the row at a number, or of d where no row is used there
  pub row_used : {B : Type 0} (f : A → B) (n i : ℕ) (d : A) → f (get_or (read_rows read n) i d) ≡ cond (ltb i n) (f (read i)) (f d)
  row_used f n i d =
      ⊎_elim
      (λ (t : T (ltb i n)). ap f (row_at_lem n i d (ltb_yes t)) ∙ sym (cond_yes (ltb i n) (f (read i)) (f d) t))
      (λ (t : T (not (ltb i n))). ap f (row_past n i d (ltb_no t)) ∙ sym (cond_no (ltb i n) (f (read i)) (f d) t))
      (decide (ltb i n))
