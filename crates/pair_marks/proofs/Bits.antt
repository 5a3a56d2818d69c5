-- The bits of a word: none from 32 on and none of 0, those from one on, and the first.
use Prim.Native.Nat.{ℕ, zero, suc, ◌+◌, ◌/◌, ◌%◌, ◌^◌, ◌≤◌, ◌<◌}
use mathlib.Core.Path.{◌≡◌, refl, sym, ap, ◌∙◌}
use mathlib.Core.Logic.{⊎_elim}
use mathlib.Core.Bool.{Bool, true, false, cond}
use mathlib.Core.List.{◌∷◌}
use native.Mathlib.Nat.{div-eq_of_lt, eq-or-lt_of_le}
use native.Mathlib.Omega.{arith}
use lib.Dec.{eqb}
use lib.ListN.{get_or}
use lib.Pow.{pow_pos, pow_mono, shr-shr}
use Rattle.meaning.specs.Lists.{keep}
use Rattle.bits.specs.Bits.{bit_at, numbers_from, bits_in, lowest_in}
use Rattle.pair_marks.specs.Marks.{Next}

small : (word j : ℕ) → word < 2 ^ j → bit_at word j ≡ false
unfolding bit_at
small word j h = ap (λ v. eqb (v % 2) 1) (div-eq_of_lt {n = word} {m = 2 ^ j} h)

pub high_bit : (word : ℕ) → word < 2 ^ 32 → (j : ℕ) → 32 ≤ j → bit_at word j ≡ false
high_bit word h j past = small word j (omega (arith, pow_mono past))

pub zero_bit : (j : ℕ) → bit_at 0 j ≡ false
zero_bit j = small 0 j (pow_pos j)

-- the bits from one on
pub shifted : (word i j : ℕ) → bit_at (word / 2 ^ i) j ≡ bit_at word (i + j)
unfolding bit_at
shifted word i j = ap (λ v. eqb (v % 2) 1) (shr-shr word i j)

-- the first of so many numbers that passes a test
first_next : (p : ℕ → Bool) (i n limit : ℕ) → limit ≡ i + n → Next p limit i (get_or (keep p (numbers_from i n)) 0 limit)
first_next p i zero limit e = record { on = omega arith; few = omega arith; passed = λ x low less. absurd (omega arith); found = λ less. absurd (omega arith) }
first_next p i (suc n) limit e = step (p i) refl (first_next p (suc i) n limit (omega arith))
  where
    step : (b : Bool) → p i ≡ b → Next p limit (suc i) (get_or (keep p (numbers_from (suc i) n)) 0 limit)
        → Next p limit i (get_or (cond b (i ∷ keep p (numbers_from (suc i) n)) (keep p (numbers_from (suc i) n))) 0 limit)
    step true q below = record { on = omega arith; few = omega arith; passed = λ x low less. absurd (omega arith); found = λ less. q }
    step false q below =
        record {
          on = omega (arith, below.on);
          few = below.few;
          passed = λ x low less. ⊎_elim (λ (e : i ≡ x). ap p (sym e) ∙ q) (λ (on : i < x). below.passed x (omega arith) less) (eq-or-lt_of_le low);
          found = below.found;
        }

-- the lowest bit is the first that is set
pub lowest_next : (word : ℕ) {low : ℕ} → low ≡ lowest_in word → Next (bit_at word) 32 0 low
unfolding bits_in
lowest_next word e = rw e (first_next (bit_at word) 0 32 32 refl)
