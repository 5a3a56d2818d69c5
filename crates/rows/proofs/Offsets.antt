-- The place of a word in a table fits a machine word, whatever the row, the width and the column.
use Prim.Native.Nat.{ℕ, ◌+◌, ◌*◌, ◌^◌, ◌-◌, ◌≤◌, ◌<◌}
use mathlib.Core.Path.{◌≡◌}
use native.Mathlib.Numerals.{add-one}
use native.Mathlib.Nat.{suc-mul, le_trans, mul-le-mul_left, mul-le-mul_right, le-pred_of_lt}
use native.Mathlib.Omega.{arith}
use mir.Syntax.{w32, w64}
use mir.Val.{Fits}

pub place_bound : (row width : ℕ) → row < 2 ^ 32 → width < 2 ^ 32 → row * width ≤ (2 ^ 32 - 1) * (2 ^ 32 - 1)
place_bound row width h k = le_trans (mul-le-mul_left row (le-pred_of_lt k)) (mul-le-mul_right (2 ^ 32 - 1) (le-pred_of_lt h))

pub place_fits : {row width : ℕ} → Fits w32 row → Fits w32 width → Fits w64 (row * width)
place_fits {row} {width} h k = record { fits = omega (arith, place_bound row width h.fits k.fits) }

-- so does the place of the row after it
pub next_fits : {row width : ℕ} → Fits w32 row → Fits w32 width → Fits w64 (row * width + width)
next_fits {row} {width} h k = record { fits = omega (arith, place_bound row width h.fits k.fits, k.fits) }

pub next_place_lem : (row width : ℕ) → (row + 1) * width ≡ row * width + width
next_place_lem row width = rw (add-one, suc-mul)

-- a row before another ends where the other starts, or earlier
pub row_before : (row other width : ℕ) → row < other → row * width + width ≤ other * width
row_before row other width h = rw (← suc-mul) (mul-le-mul_right width h)
