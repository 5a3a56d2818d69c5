-- The bits of a word that are set, by halving it: the lowest digit, and the rest one place on.
use Prim.Native.Nat.{ℕ, zero, suc, ◌+◌, ◌-◌, ◌/◌, ◌%◌, ◌^◌, min, ◌<◌}
use mathlib.Core.Path.{◌≡◌, refl, sym, ap, ap₂, ◌∙◌}
use mathlib.Core.Logic.{◌⊎◌, inl, inr}
use mathlib.Core.Bool.{cond}
use mathlib.Core.List.{List, [], ◌∷◌, cons-ne-nil}
use native.Mathlib.Nat.{zero-add, pow-suc, div-one}
use native.Mathlib.Numerals.{add-one}
use native.Mathlib.Omega.{arith}
use lib.Arith.{lt-one}
use lib.Bits.{bit_and, and_step, and_self}
use lib.Count.{ones, ones_in, ones_step, count_trailing_zeros}
use lib.Dec.{eqb}
use lib.ListN.{length, get_or, drop}
use lib.Pow.{shr-shr}
use Rattle.meaning.specs.Lists.{keep}
use Rattle.bits.specs.Bits.{bit_at, numbers_from, bits_in, lowest_in}

-- of so many digits of a word, the places of those that are set, counted from a base
bits_from : ℕ → ℕ → ℕ → List ℕ
bits_from base zero w = []
bits_from base (suc d) w = cond (eqb (w % 2) 1) (base ∷ bits_from (suc base) d (w / 2)) (bits_from (suc base) d (w / 2))

from_keep : (word base d : ℕ) → keep (bit_at word) (numbers_from base d) ≡ bits_from base d (word / 2 ^ base)
unfolding bit_at bits_from
from_keep word base zero = refl
from_keep word base (suc d) =
    let half : word / 2 ^ suc base ≡ word / 2 ^ base / 2 = ap (λ k. word / 2 ^ k) (sym (add-one base)) ∙ sym (shr-shr word base 1) in
    let below = from_keep word (suc base) d ∙ ap (bits_from (suc base) d) half in
    ap (λ l. cond (eqb (word / 2 ^ base % 2) 1) (base ∷ l) l) below

bits_are : (word : ℕ) → bits_in word ≡ bits_from 0 32 word
unfolding bits_in
bits_are word = from_keep word 0 32 ∙ ap (bits_from 0 32) (div-one word)

-- ---- a digit

pub digit : (w : ℕ) → (w % 2 ≡ 0) ⊎ (w % 2 ≡ 1)
digit w = step (w % 2) (omega arith)
  where
    step : (r : ℕ) → r < 2 → (r ≡ 0) ⊎ (r ≡ 1)
    step zero h = inl refl
    step (suc zero) h = inr refl
    step (suc (suc r)) h = absurd (omega arith)

module _ (base d w : ℕ) where
  bits_even : w % 2 ≡ 0 → bits_from base (suc d) w ≡ bits_from (suc base) d (w / 2)
  unfolding bits_from
  bits_even e = rw e

  bits_odd : w % 2 ≡ 1 → bits_from base (suc d) w ≡ base ∷ bits_from (suc base) d (w / 2)
  unfolding bits_from
  bits_odd e = rw e

-- ---- the lowest

module _ (d w : ℕ) where
  zeros_even : w % 2 ≡ 0 → count_trailing_zeros (suc d) w ≡ suc (count_trailing_zeros d (w / 2))
  unfolding count_trailing_zeros
  zeros_even e = rw e

  zeros_odd : w % 2 ≡ 1 → count_trailing_zeros (suc d) w ≡ 0
  unfolding count_trailing_zeros
  zeros_odd e = rw e

first_bit : (base d w : ℕ) → get_or (bits_from base d w) 0 (base + d) ≡ base + count_trailing_zeros d w
unfolding bits_from count_trailing_zeros
first_bit base zero w = refl
first_bit base (suc d) w = step (digit w) (first_bit (suc base) d (w / 2))
  where
    step : (w % 2 ≡ 0) ⊎ (w % 2 ≡ 1) → get_or (bits_from (suc base) d (w / 2)) 0 (suc base + d) ≡ suc base + count_trailing_zeros d (w / 2) → get_or (bits_from base (suc d) w) 0 (base + suc d) ≡ base + count_trailing_zeros (suc d) w
    step (inl e) below =
        let end : base + suc d ≡ suc base + d = omega arith in
        ap₂ (λ l n. get_or l 0 n) (bits_even base d w e) end ∙ below ∙ omega (arith, zeros_even d w e)
    step (inr e) below = ap (λ l. get_or l 0 (base + suc d)) (bits_odd base d w e) ∙ omega (arith, zeros_odd d w e)

pub lowest_is : (word : ℕ) → count_trailing_zeros 32 word ≡ lowest_in word
lowest_is word = sym (ap (λ l. get_or l 0 32) (bits_are word) ∙ first_bit 0 32 word ∙ zero-add (count_trailing_zeros 32 word))

-- ---- the rest

-- of a word and the number before it: an odd word loses its lowest digit, an even one loses a digit of its half
module _ (w : ℕ) where
  pair : (bit_and w (w - 1) % 2 ≡ 0) × (bit_and w (w - 1) / 2 ≡ bit_and (w / 2) ((w - 1) / 2))
  pair =
      let small : min (w % 2) ((w - 1) % 2) ≡ 0 = step (digit w) in
      omega (arith, and_step w (w - 1))
    where
      step : (w % 2 ≡ 0) ⊎ (w % 2 ≡ 1) → min (w % 2) ((w - 1) % 2) ≡ 0
      step (inl e) = omega arith
      step (inr e) = omega arith

rest_bits : (base d w : ℕ) → bits_from base d (bit_and w (w - 1)) ≡ drop 1 (bits_from base d w)
unfolding bits_from
rest_bits base zero w = refl
rest_bits base (suc d) w = bits_even base d (bit_and w (w - 1)) (pair w).0 ∙ ap (bits_from (suc base) d) (pair w).1 ∙ step (digit w) (rest_bits (suc base) d (w / 2))
  where
    step : (w % 2 ≡ 0) ⊎ (w % 2 ≡ 1) → bits_from (suc base) d (bit_and (w / 2) (w / 2 - 1)) ≡ drop 1 (bits_from (suc base) d (w / 2)) → bits_from (suc base) d (bit_and (w / 2) ((w - 1) / 2)) ≡ drop 1 (bits_from base (suc d) w)
    step (inl e) below =
        let half : (w - 1) / 2 ≡ w / 2 - 1 = omega arith in
        ap (λ v. bits_from (suc base) d (bit_and (w / 2) v)) half ∙ below ∙ ap (drop 1) (sym (bits_even base d w e))
    step (inr e) below =
        let half : (w - 1) / 2 ≡ w / 2 = omega arith in
        ap (bits_from (suc base) d) (ap (bit_and (w / 2)) half ∙ and_self (w / 2)) ∙ ap (drop 1) (sym (bits_odd base d w e))

pub rest_is : (word : ℕ) → bits_in (bit_and word (word - 1)) ≡ drop 1 (bits_in word)
rest_is word = bits_are (bit_and word (word - 1)) ∙ rest_bits 0 32 word ∙ ap (drop 1) (sym (bits_are word))

-- ---- how many

ones_bits : (base d w : ℕ) → w < 2 ^ d → ones w ≡ length (bits_from base d w)
unfolding bits_from ones ones_in
ones_bits base zero w h = ap ones (lt-one h)
ones_bits base (suc d) w h = ones_step w ∙ step (digit w) (ones_bits (suc base) d (w / 2) (omega (arith, pow-suc 2 d)))
  where
    step : (w % 2 ≡ 0) ⊎ (w % 2 ≡ 1) → ones (w / 2) ≡ length (bits_from (suc base) d (w / 2)) → w % 2 + ones (w / 2) ≡ length (bits_from base (suc d) w)
    step (inl e) below = omega (arith, ap length (bits_even base d w e))
    step (inr e) below = omega (arith, ap length (bits_odd base d w e))

pub count_is : (word : ℕ) → word < 2 ^ 32 → ones word ≡ length (bits_in word)
count_is word h = ones_bits 0 32 word h ∙ ap length (sym (bits_are word))

-- ---- none

empty_zero : (base d w : ℕ) → w < 2 ^ d → bits_from base d w ≡ [] → w ≡ 0
empty_zero base zero w h e = lt-one h
empty_zero base (suc d) w h e = step (digit w) (empty_zero (suc base) d (w / 2) (omega (arith, pow-suc 2 d)))
  where
    step : (w % 2 ≡ 0) ⊎ (w % 2 ≡ 1) → (bits_from (suc base) d (w / 2) ≡ [] → w / 2 ≡ 0) → w ≡ 0
    step (inl p) below = omega (arith, below (sym (bits_even base d w p) ∙ e))
    step (inr p) below = absurd (cons-ne-nil base (bits_from (suc base) d (w / 2)) (sym (bits_odd base d w p) ∙ e))

-- no bit is set in 0 only
pub none_set : (word : ℕ) → word < 2 ^ 32 → bits_in word ≡ [] → word ≡ 0
none_set word h e = empty_zero 0 32 word h (sym (bits_are word) ∙ e)
