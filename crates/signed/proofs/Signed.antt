-- Signed machine numbers as integers: what fits 64 bits is read back as it is.
use Prim.Native.Nat.{ℕ, zero, suc, ◌-◌, ◌^◌, ◌≤◌, ◌<◌}
use mathlib.Core.Path.{◌≡◌, refl, sym, ap, ◌∙◌, subst}
use mathlib.Core.Logic.{⊎_elim}
use mathlib.Core.Bool.{Bool, true, false, ◌&&◌, not}
use native.Mathlib.Omega.{arith}
use lib.Dec.{T, ltb, leb, eqb, eqb→eq, eqb_refl}
use mir.Facts.{and_yes, yes_and, ltb_yes, ltb_no}
use native.Mathlib.Nat.{not-suc-le-zero}
use lib.IntN.{ℤ, pos, negsuc, nat_abs, ◌-ℤ◌}
use lib.Signed.{mag, le_z, ≤ℤ_refl, le_z_yes}
use mir.Syntax.{w64}
use mir.Val.{SFits, of_z, to_z}
use mir.ValLaws.{to_z-of_z}
use borrow.Author.Tests.{lt-ltb, le-ltb, le-leb, lt-leb}
use Rattle.meaning.specs.Register.{negative}
use Rattle.meaning.proofs.Lists.{decide}
use Rattle.meaning.proofs.Integers.{≤ℤ-antisym}
use Rattle.rows.specs.Rows.{signed}

mag_le : (z : ℤ) → mag z ≤ nat_abs z
mag_le (pos n) = omega arith
mag_le (negsuc n) = omega arith

-- a number far below 2^63 fits
pub small_fits : (z : ℤ) → nat_abs z ≤ 2 ^ 62 → SFits w64 z
small_fits z h = record { sfits = omega (arith, mag_le z) }

pub back : (z : ℤ) → SFits w64 z → to_z w64 (of_z w64 z) ≡ z
back = to_z-of_z w64

-- equality of the machine words is equality of the numbers
both_ways : (x y : Bool) → (T x → T y) → (T y → T x) → x ≡ y
both_ways true true f g = refl
both_ways true false f g = absurd (f tt)
both_ways false true f g = absurd (g tt)
both_ways false false f g = refl

pub equal : (a b : ℤ) → SFits w64 a → SFits w64 b → eqb (of_z w64 a) (of_z w64 b) ≡ (le_z a b && le_z b a)
equal a b f g = both_ways (eqb (of_z w64 a) (of_z w64 b)) (le_z a b && le_z b a) forth back_again
  where
    forth : T (eqb (of_z w64 a) (of_z w64 b)) → T (le_z a b && le_z b a)
    forth t =
        let e : a ≡ b = sym (back a f) ∙ ap (to_z w64) (eqb→eq (of_z w64 a) (of_z w64 b) t) ∙ back b g in
        subst (λ z. T (le_z a z && le_z z a)) e (yes_and (le_z a a) (le_z a a) (≤ℤ_refl a).le (≤ℤ_refl a).le)

    back_again : T (le_z a b && le_z b a) → T (eqb (of_z w64 a) (of_z w64 b))
    back_again t =
        let h = and_yes (le_z a b) (le_z b a) t in
        subst (λ z. T (eqb (of_z w64 a) (of_z w64 z))) (≤ℤ-antisym {a = a} {b = b} (le_z_yes h.0) (le_z_yes h.1)) (eqb_refl (of_z w64 a))

-- ---- the value of a word

pub word_small : (w : ℕ) → w < 2 ^ 32 → to_z w64 w ≡ pos w
word_small w h = rw (lt-ltb w (2 ^ 63) (omega arith))

-- below 0
pub minus : (m n : ℕ) → m < n → pos m -ℤ pos n ≡ negsuc (n - 1 - m)
minus m zero h = absurd (not-suc-le-zero h)
minus m (suc n) h = rw (lt-ltb m (suc n) h) (ap negsuc (omega arith))

pub signed_low : (w : ℕ) → w < 2 ^ 31 → signed w ≡ pos w
signed_low w h = rw (lt-ltb w (2 ^ 31) h)

pub signed_high : (w : ℕ) → 2 ^ 31 ≤ w → signed w ≡ negsuc (2 ^ 32 - 1 - w)
signed_high w h = rw (le-ltb w (2 ^ 31) h)

-- a word stands for a number below 0 from 2^31 on
pub negative_word : (w : ℕ) → leb (2 ^ 31) w ≡ negative (signed w)
negative_word w =
    ⊎_elim
    (λ (t : T (ltb w (2 ^ 31))). rw (lt-leb (2 ^ 31) w (ltb_yes t), signed_low w (ltb_yes t), le-leb 0 w (omega arith)))
    (λ (t : T (not (ltb w (2 ^ 31)))). rw (le-leb (2 ^ 31) w (ltb_no t), signed_high w (ltb_no t)))
    (decide (ltb w (2 ^ 31)))
