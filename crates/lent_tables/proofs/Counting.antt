-- More rows used than the lower of two bounds, and a row of many that passes a test.
use Prim.Native.Nat.{ℕ, suc, ◌+◌, ◌-◌, min, ◌≤◌, ◌<◌}
use mathlib.Core.Path.{◌≡◌, refl, sym, ap, ◌∙◌}
use mathlib.Core.Bool.{Bool, true, false, ◌||◌}
use native.Mathlib.Numerals.{add-one}
use native.Mathlib.Omega.{arith}
use lib.Dec.{ltb}
use borrow.Author.Tests.{lt-ltb, le-ltb, ltb-true, ltb-false}
use Rattle.meaning.specs.Lists.{any}
use Rattle.rows.specs.Rows.{rows_from}

pub above_limit : (limit lent used : ℕ) → limit < used → true ≡ ltb (min limit lent) used
above_limit limit lent used h = sym (lt-ltb (min limit lent) used (omega arith))

pub within_limit : (limit lent used : ℕ) → used ≤ limit → ltb lent used ≡ ltb (min limit lent) used
within_limit limit lent used h = step (ltb lent used) refl
  where
    step : (b : Bool) → ltb lent used ≡ b → b ≡ ltb (min limit lent) used
    step true e = sym (lt-ltb (min limit lent) used (omega (arith, ltb-true lent used e)))
    step false e = sym (le-ltb (min limit lent) used (omega (arith, ltb-false lent used e)))

-- ---- whether a number from `row` on, below `count`, passes a test

module _ (p : ℕ → Bool) (count : ℕ) where
  abbrev pub passes_from : ℕ → Bool
  passes_from row = any p (rows_from (λ i. i) row (count - row))

  pub passes_here : (row : ℕ) → row < count → passes_from row ≡ (p row || passes_from (row + 1))
  passes_here row h =
      let one_less_lem : count - row ≡ suc (count - (row + 1)) = omega arith in
      ap (λ k. any p (rows_from (λ i. i) row k)) one_less_lem
      ∙ ap (λ j. p row || any p (rows_from (λ i. i) j (count - (row + 1)))) (sym (add-one row))

  pub passes_nowhere : (row : ℕ) → count ≤ row → passes_from row ≡ false
  passes_nowhere row h = let none_left : count - row ≡ 0 = omega arith in ap (λ k. any p (rows_from (λ i. i) row k)) none_left
