-- Operators by ranges of codes.
use Prim.Native.Nat.{ℕ, zero, suc, ◌+◌, ◌-◌, ◌≤◌, ◌<◌}
use mathlib.Core.Path.{◌≡◌, refl, subst}
use mathlib.Core.Option.{some}
use native.Mathlib.Omega.{arith}
use Rattle.tables.specs.Codes.{Operator, comparing, connecting, quantifying, combining, operators, operator_of}
use Rattle.signed.specs.Comparing.{comparison_of}
use Rattle.operators.specs.Operators.{connective_of, quantifier_of, arithmetic_of}

pub comparing_at : (k : ℕ) → k < 6 → operator_of k ≡ some (comparing (comparison_of k))
unfolding operator_of operators comparison_of
comparing_at zero h = refl
comparing_at (suc zero) h = refl
comparing_at (suc (suc zero)) h = refl
comparing_at (suc (suc (suc zero))) h = refl
comparing_at (suc (suc (suc (suc zero)))) h = refl
comparing_at (suc (suc (suc (suc (suc zero))))) h = refl
comparing_at (suc (suc (suc (suc (suc (suc k)))))) h = absurd (omega arith)

-- n codes from a first one on
from_first : (base n : ℕ) (f : ℕ → Operator) → ((d : ℕ) → d < n → operator_of (base + d) ≡ some (f (base + d))) → (k : ℕ) → base ≤ k → k < base + n → operator_of k ≡ some (f k)
from_first base n f each k h l =
    let e : base + (k - base) ≡ k = omega arith in
    subst (λ j. operator_of j ≡ some (f j)) e (each (k - base) (omega arith))

pub connecting_at : (k : ℕ) → 7 ≤ k → k < 11 → operator_of k ≡ some (connecting (connective_of k))
unfolding operator_of operators connective_of
connecting_at = from_first 7 4 (λ k. connecting (connective_of k)) each
  where
    each : (d : ℕ) → d < 4 → operator_of (7 + d) ≡ some (connecting (connective_of (7 + d)))
    each zero h = refl
    each (suc zero) h = refl
    each (suc (suc zero)) h = refl
    each (suc (suc (suc zero))) h = refl
    each (suc (suc (suc (suc d)))) h = absurd (omega arith)

two_codes : (base : ℕ) (f : ℕ → Operator) → operator_of (base + 0) ≡ some (f (base + 0)) → operator_of (base + 1) ≡ some (f (base + 1)) → (k : ℕ) → base ≤ k → k < base + 2 → operator_of k ≡ some (f k)
two_codes base f a b = from_first base 2 f each
  where
    each : (d : ℕ) → d < 2 → operator_of (base + d) ≡ some (f (base + d))
    each zero h = a
    each (suc zero) h = b
    each (suc (suc d)) h = absurd (omega arith)

pub quantifying_at : (k : ℕ) → 11 ≤ k → k < 13 → operator_of k ≡ some (quantifying (quantifier_of k))
unfolding operator_of operators quantifier_of
quantifying_at = two_codes 11 (λ k. quantifying (quantifier_of k)) refl refl

pub combining_at : (k : ℕ) → 18 ≤ k → k < 20 → operator_of k ≡ some (combining (arithmetic_of k))
unfolding operator_of operators arithmetic_of
combining_at = two_codes 18 (λ k. combining (arithmetic_of k)) refl refl

-- codes that are left by tests
pub above_cell : (k : ℕ) → 14 ≤ k → (k ≡ 14 → ⊥) → (k ≡ 15 → ⊥) → 16 ≤ k
above_cell k h a b = omega arith
