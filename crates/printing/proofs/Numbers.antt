-- The digits of a number after a space, as they are put, and how many there are.
use Prim.Native.Nat.{ℕ, ◌+◌, ◌/◌, ◌%◌, ◌^◌, ◌≤◌, ◌<◌}
use mathlib.Core.Path.{◌≡◌, sym, ap, ap₂, ◌∙◌}
use mathlib.Core.List.{[], ◌∷◌, ◌++◌}
use native.Mathlib.Omega.{arith}
use lib.ListN.{length, length-append}
use Rattle.rows.specs.Rows.{signed}
use Rattle.lexical.specs.Decimals.{digits_of, decimal_of}
use Rattle.lexical.proofs.Spelling.{lead, lead_zero, lead_step, short_lead, decimal_low}

pub number_low : (n : ℕ) → n < 2 ^ 31 → (32 ∷ []) ++ decimal_of (signed n) ≡ 32 ∷ digits_of n
number_low n h = ap (λ l. 32 ∷ l) (decimal_low n h)

-- all digits but the last are those of the tenth
tenth : (n : ℕ) → 10 ≤ n → digits_of (n / 10) ≡ lead (n / 10)
unfolding digits_of
tenth n h = sym (lead_step (n / 10) (omega arith))

last : (n : ℕ) → digits_of (n % 10) ≡ (48 + n % 10) ∷ []
unfolding digits_of
last n =
    let none : n % 10 / 10 ≡ 0 = omega arith in
    let one : n % 10 % 10 ≡ n % 10 = omega arith in
    rw (none, one, lead_zero)

pub number_high : (n : ℕ) → 10 ≤ n → n < 2 ^ 32 → ((32 ∷ []) ++ decimal_of (signed (n / 10))) ++ decimal_of (signed (n % 10)) ≡ 32 ∷ digits_of n
unfolding digits_of
number_high n h k =
    ap (λ l. 32 ∷ l) (ap₂ ◌++◌ (decimal_low (n / 10) (omega arith) ∙ tenth n h) (decimal_low (n % 10) (omega arith) ∙ last n))

-- below a power of ten there are at most so many digits
few_digits : (k n : ℕ) → n / 10 < 10 ^ k → length (digits_of n) ≤ k + 1
unfolding digits_of
few_digits k n h = omega (arith, length-append (lead (n / 10)) ((48 + n % 10) ∷ []), short_lead k (n / 10) h)

pub ten_digits : (n : ℕ) → n < 2 ^ 32 → length (digits_of n) ≤ 10
ten_digits n h = few_digits 9 n (omega arith)

pub five_digits : (n : ℕ) → n < 2 ^ 16 → length (digits_of n) ≤ 5
five_digits n h = few_digits 4 n (omega arith)
