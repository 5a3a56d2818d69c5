-- A word with a bit, and the bits of a word taken one after the other.
use Prim.Native.Nat.{ℕ, suc, ◌+◌, ◌-◌, ◌*◌, ◌/◌, ◌%◌, ◌^◌, ◌<◌}
use mathlib.Core.Path.{◌≡◌, refl, sym, ap, ap₂, ◌∙◌}
use mathlib.Core.Logic.{◌⊎◌, inl, inr, ⊎_elim}
use mathlib.Core.Bool.{Bool, true, false, ◌||◌}
use mathlib.Core.List.{List, [], ◌∷◌}
use native.Mathlib.Nat.{pow-suc, div-eq_of_lt, eq-or-lt_of_le}
use native.Mathlib.Omega.{arith}
use borrow.Author.Tests.{eqb-true, eqb-false}
use lib.Bits.{bit_or, or_step, or_shr}
use lib.Count.{ones, ones_in}
use lib.Dec.{ltb, eqb}
use lib.ListN.{length, get_or, drop}
use lib.Pow.{pow-lt, pow-add, shl_exact, shl-shr}
use mir.Facts.{ltb_yes, ltb_no}
use Rattle.meaning.proofs.Lists.{decide}
use Rattle.bits.specs.Bits.{bit_at, bits_in, lowest_in}
use Rattle.bits.proofs.Digits.{digit, count_is, none_set}

-- ---- a bit more

-- the word of one bit
abbrev one : ℕ → ℕ
one i = 1 * 2 ^ i

one_own : (i : ℕ) → one i / 2 ^ i % 2 ≡ 1
one_own i = ap (λ v. v % 2) (shl-shr 1 i)

one_other : (i j : ℕ) → (i ≡ j → ⊥) → one i / 2 ^ j % 2 ≡ 0
one_other i j other = ⊎_elim (λ t. low (ltb_yes t)) (λ t. ⊎_elim (λ e. absurd (other (sym e))) high (eq-or-lt_of_le (ltb_no t))) (decide (ltb i j))
  where
    low : i < j → one i / 2 ^ j % 2 ≡ 0
    low h = ap (λ v. v % 2) (div-eq_of_lt {n = one i} {m = 2 ^ j} (omega (arith, pow-lt h)))

    high : j < i → one i / 2 ^ j % 2 ≡ 0
    high h =
        let m = i - j - 1 in
        let on : i ≡ suc m + j = omega arith in
        let split : one i ≡ 2 ^ suc m * 2 ^ j = omega (arith, ap (λ k. 2 ^ k) on, pow-add 2 (suc m) j) in
        ap (λ v. v % 2) (ap (λ v. v / 2 ^ j) split ∙ shl-shr (2 ^ suc m) j) ∙ omega (arith, pow-suc 2 m)

one_digit : (i j : ℕ) → eqb (one i / 2 ^ j % 2) 1 ≡ eqb i j
one_digit i j = step (eqb i j) refl
  where
    step : (b : Bool) → eqb i j ≡ b → eqb (one i / 2 ^ j % 2) 1 ≡ b
    step true e = ap (λ k. eqb (one i / 2 ^ k % 2) 1) (sym (eqb-true i j e)) ∙ ap (λ v. eqb v 1) (one_own i)
    step false e = ap (λ v. eqb v 1) (one_other i j (eqb-false i j e))

-- the lowest digit of two words together
either_digit : (a b : ℕ) → eqb (bit_or a b % 2) 1 ≡ (eqb (a % 2) 1 || eqb (b % 2) 1)
either_digit a b = step (digit a) (digit b)
  where
    both : (x y r : ℕ) → a % 2 ≡ x → b % 2 ≡ y → bit_or a b % 2 ≡ r → eqb r 1 ≡ (eqb x 1 || eqb y 1) → eqb (bit_or a b % 2) 1 ≡ (eqb (a % 2) 1 || eqb (b % 2) 1)
    both x y r p q s e = ap (λ v. eqb v 1) s ∙ e ∙ sym (ap₂ (λ u v. eqb u 1 || eqb v 1) p q)

    step : (a % 2 ≡ 0) ⊎ (a % 2 ≡ 1) → (b % 2 ≡ 0) ⊎ (b % 2 ≡ 1) → eqb (bit_or a b % 2) 1 ≡ (eqb (a % 2) 1 || eqb (b % 2) 1)
    step (inl p) (inl q) = both 0 0 0 p q (omega (arith, or_step a b)) refl
    step (inl p) (inr q) = both 0 1 1 p q (omega (arith, or_step a b)) refl
    step (inr p) (inl q) = both 1 0 1 p q (omega (arith, or_step a b)) refl
    step (inr p) (inr q) = both 1 1 1 p q (omega (arith, or_step a b)) refl

pub with_is : (word i : ℕ) → i < 32 → (j : ℕ) → bit_at (bit_or word ((1 * 2 ^ i) % 2 ^ 32)) j ≡ (bit_at word j || eqb i j)
unfolding bit_at
with_is word i h j =
    ap (λ v. eqb (bit_or word v / 2 ^ j % 2) 1) (shl_exact 1 i 32 (omega arith) (omega arith))
    ∙ ap (λ v. eqb (v % 2) 1) (or_shr word (one i) j)
    ∙ either_digit (word / 2 ^ j) (one i / 2 ^ j)
    ∙ ap (λ b. eqb (word / 2 ^ j % 2) 1 || b) (one_digit i j)

-- ---- one bit after the other

pub none_is : bits_in 0 ≡ []
unfolding ones ones_in
none_is = empty (bits_in 0) (sym (count_is 0 (omega arith)))
  where
    empty : (l : List ℕ) → length l ≡ ones 0 → l ≡ []
    empty [] e = refl
    empty (x ∷ l) e = absurd (omega arith)

-- of a word that is not 0, the lowest bit and then the rest
pub taken : (word first rest : ℕ) → word < 2 ^ 32 → (word ≡ 0 → ⊥) → first ≡ lowest_in word → bits_in rest ≡ drop 1 (bits_in word) → bits_in word ≡ first ∷ bits_in rest
taken word first rest h some p q = step (bits_in word) refl ∙ sym (ap₂ ◌∷◌ p q)
  where
    step : (l : List ℕ) → bits_in word ≡ l → l ≡ get_or l 0 32 ∷ drop 1 l
    step [] e = absurd (some (none_set word h e))
    step (x ∷ l) e = refl
