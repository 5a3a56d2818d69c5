-- Rows that ascend by their keys: at a key's place stands the key's row.
use Prim.Native.Nat.{ℕ, zero, suc, ◌+◌, ◌<◌}
use mathlib.Core.Path.{◌≡◌, sym, ap, subst, subst₂}
use mathlib.Core.Logic.{⊎_elim}
use mathlib.Core.Bool.{Bool, true, false, not}
use mathlib.Core.List.Memᴰ
use mathlib.Core.List.{List}
use mathlib.Core.Option.{none, some}
use native.Mathlib.Nat.{le_refl, eq-or-lt_of_le, zero-add, add-zero}
use native.Mathlib.Omega.{arith}
use lib.Dec.{T}
use mir.Facts.{T_not, not_T}
use Rattle.meaning.specs.Lists.{before, ◌∈◌, Ascending, Before}
use Rattle.meaning.proofs.Order.{before_irreflexive}
use Rattle.rows.specs.Rows.{rows_from, read_rows}
use Rattle.keys.specs.Keys.{LowerBound}
use Rattle.register.proofs.Hits.{first_hit, missed_to, hit_at, hit_none}

module _ {A : Type 0} (read : ℕ → A) where
  row_in : (j n i : ℕ) → i < n → read (j + i) ∈ rows_from read j n
  row_in j zero i h = absurd (omega arith)
  row_in j (suc n) zero h = Memᴰ.head (ap read (add-zero j))
  row_in j (suc n) (suc i) h = Memᴰ.tail (subst (λ m. read m ∈ rows_from read (suc j) n) (omega arith) (row_in (suc j) n i (omega arith)))

  pub row_there : (n i : ℕ) → i < n → read i ∈ read_rows read n
  row_there n i h = subst (λ m. read m ∈ read_rows read n) (zero-add i) (row_in 0 n i h)

  from_ordered : (R : A → A → Type 0) (j n : ℕ) → Ascending R (rows_from read j n) → (i k : ℕ) → i < k → k < n → R (read (j + i)) (read (j + k))
  from_ordered R j zero a i k l h = absurd (omega arith)
  from_ordered R j (suc n) a i zero l h = absurd (omega arith)
  from_ordered R j (suc n) a zero (suc k) l h =
      subst₂ (λ m p. R (read m) (read p)) (omega arith) (omega arith) (a.0 (read (suc j + k)) (row_in (suc j) n k (omega arith)))
  from_ordered R j (suc n) a (suc i) (suc k) l h =
      subst₂ (λ m p. R (read m) (read p)) (omega arith) (omega arith) (from_ordered R (suc j) n a.1 i k (omega arith) (omega arith))

module _ {A : Type 0} (key : A → List ℕ) (read : ℕ → A) (n : ℕ) (a : Ascending (Before key) (read_rows read n)) where
  -- a row comes before the rows after it
  pub ordered : {i j : ℕ} → i < j → j < n → Before key (read i) (read j)
  ordered {i} {j} l h = subst₂ (λ m p. Before key (read m) (read p)) (zero-add i) (zero-add j) (from_ordered read (Before key) 0 n a i j l h)

  -- r is the place of the key k, and a test passes only the rows of that key
  module _ {k : List ℕ} {r : ℕ} (b : LowerBound (λ i. key (read i)) n k r) (hit : A → Bool) (exact : (x : A) → T (hit x) → key x ≡ k) where
    missed_below : (i : ℕ) → i < r → T (not (hit (read i)))
    missed_below i h =
        not_T (hit (read i)) (λ t. before_irreflexive k (subst (λ v. T (before v k)) (exact (read i) t) (b.below i h)))

    missed_after : r < n → (i : ℕ) → r < i → i < n → T (not (hit (read i)))
    missed_after h i l m =
        not_T (hit (read i))
        (λ t. T_not (before (key (read r)) k) (subst (λ v. T (before (key (read r)) v)) (exact (read i) t) (ordered l m)) (b.above r (le_refl r) h))

    pub place_hit : r < n → hit (read r) ≡ true → first_hit hit read n ≡ some r
    place_hit h e = hit_at hit read n (missed_to hit read n r b.within missed_below) h (subst T (sym e) tt)

    pub place_missed : (r < n → hit (read r) ≡ false) → first_hit hit read n ≡ none
    place_missed f =
        hit_none hit read n (missed_to hit read n r b.within missed_below)
        (λ i h l.
        ⊎_elim
        (λ (q : r ≡ i). subst (λ m. T (not (hit (read m)))) q (subst (λ v. T (not v)) (sym (f (omega arith))) tt))
        (λ (q : r < i). missed_after (omega arith) i q l)
        (eq-or-lt_of_le h))
