-- A word and its signed value determine each other.
use Prim.Native.Nat.{ℕ, ◌-◌, ◌^◌, ◌<◌}
use mathlib.Core.Path.{◌≡◌, refl, ap}
use mathlib.Core.Bool.{Bool, true, false, cond}
use native.Mathlib.Omega.{arith}
use borrow.Author.Tests.{lt-ltb, le-ltb, ltb-true, ltb-false}
use lib.Dec.{ltb}
use lib.IntN.{ℤ, pos, negsuc}
use lib.Signed.{mag}
use Rattle.rows.specs.Rows.{signed, word_of}

module _ (w : ℕ) (h : w < 2 ^ 32) where
  value : Bool → ℤ
  value b = cond b (pos w) (negsuc (2 ^ 32 - 1 - w))

  back : (b : Bool) → word_of (value b) ≡ w
  unfolding value
  back true = refl
  back false = omega arith

  pub word_signed : word_of (signed w) ≡ w
  unfolding value
  word_signed = back (ltb w (2 ^ 31))

-- the signed value of a word is one of 32 bits
pub signed_fits : (w : ℕ) → mag (signed w) < 2 ^ 31
signed_fits w = step (ltb w (2 ^ 31)) refl
  where
    step : (b : Bool) → ltb w (2 ^ 31) ≡ b → mag (cond b (pos w) (negsuc (2 ^ 32 - 1 - w))) < 2 ^ 31
    step true e = ltb-true w (2 ^ 31) e
    step false e = let l = ltb-false w (2 ^ 31) e in omega arith

-- `mag z < 2 ^ 31` says that z is of 32 bits: it is `fits_word z` of crate `meaning`
pub signed_word : (z : ℤ) → mag z < 2 ^ 31 → signed (word_of z) ≡ z
signed_word (pos n) h = rw (lt-ltb n (2 ^ 31) h)
signed_word (negsuc n) h = rw (le-ltb (2 ^ 32 - 1 - n) (2 ^ 31) (omega arith)) (ap negsuc (omega arith))

pub word_fits : (z : ℤ) → mag z < 2 ^ 31 → word_of z < 2 ^ 32
word_fits (pos n) h = omega arith
word_fits (negsuc n) h = omega arith
