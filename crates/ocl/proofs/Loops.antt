-- One more member: of a quantifier and of a sum.
use Prim.Native.Nat.{ℕ}
use mathlib.Core.Path.{◌≡◌, refl, sym, ap, ap₂, ◌∙◌}
use mathlib.Core.Bool.{Bool, true, false, not, cond}
use mathlib.Core.List.{List, [], ◌∷◌, map}
use native.Mathlib.Omega.{arith}
use lib.Dec.{eqb}
use lib.ListN.{length}
use lib.IntN.{ℤ, pos, ◌+ℤ◌}
use Rattle.meaning.specs.Register.{Register, cell_at}
use Rattle.meaning.specs.Forms.{forall, exists}
use Rattle.meaning.specs.Meaning.{quantified, total}
use Rattle.operators.specs.Operators.{quantifier_of, stopping}

-- ---- quantifiers, by their codes

pub quantified_none : (k : ℕ) (p : ℕ → Bool) → quantified (quantifier_of k) p [] ≡ eqb k 11
unfolding quantified quantifier_of
quantified_none k p = step (eqb k 11)
  where
    step : (b : Bool) → quantified (cond b forall exists) p [] ≡ b
    step true = refl
    step false = refl

pub quantified_stop : (k : ℕ) (p : ℕ → Bool) (x : ℕ) (l : List ℕ) → stopping (quantifier_of k) (p x) ≡ true → quantified (quantifier_of k) p (x ∷ l) ≡ not (eqb k 11)
unfolding quantified quantifier_of stopping
quantified_stop k p x l h = step (eqb k 11) h
  where
    all_stop : (b : Bool) → not b ≡ true → b ≡ false
    all_stop true h = cc
    all_stop false h = refl

    step : (b : Bool) → stopping (cond b forall exists) (p x) ≡ true → quantified (cond b forall exists) p (x ∷ l) ≡ not b
    step true h = rw (all_stop (p x) h)
    step false h = rw h

pub quantified_on : (k : ℕ) (p : ℕ → Bool) (x : ℕ) (l : List ℕ) → stopping (quantifier_of k) (p x) ≡ false → quantified (quantifier_of k) p (x ∷ l) ≡ quantified (quantifier_of k) p l
unfolding quantified quantifier_of stopping
quantified_on k p x l h = step (eqb k 11) h
  where
    all_on : (b : Bool) → not b ≡ false → b ≡ true
    all_on true h = refl
    all_on false h = cc

    step : (b : Bool) → stopping (cond b forall exists) (p x) ≡ false → quantified (cond b forall exists) p (x ∷ l) ≡ quantified (cond b forall exists) p l
    step true h = rw (all_on (p x) h)
    step false h = rw h

-- ---- sizes and sums

-- what the member x adds to a size (code 16) or to a sum of cells
abbrev pub weighed : ℕ → Register → ℕ → ℕ → ℤ
weighed k g cell x = cond (eqb k 16) (pos 1) (cell_at g x cell)

-- a size is the sum of ones
pub ones : (f : ℕ → ℤ) → ((x : ℕ) → f x ≡ pos 1) → (l : List ℕ) → pos (length l) ≡ total (map f l)
unfolding total
ones f h [] = refl
ones f h (x ∷ l) = ap pos (omega arith) ∙ ap₂ ◌+ℤ◌ (sym (h x)) (ones f h l)

pub total_none : (f : ℕ → ℤ) {l : List ℕ} → l ≡ [] → total (map f l) ≡ pos 0
unfolding total
total_none f e = ap (λ k. total (map f k)) e

pub total_more : (f : ℕ → ℤ) {l m : List ℕ} {x : ℕ} → l ≡ x ∷ m → total (map f l) ≡ f x +ℤ total (map f m)
unfolding total
total_more f e = ap (λ k. total (map f k)) e
