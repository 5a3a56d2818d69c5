-- A loop over the rows of a table from row 0 finds the first faulty row. The invariant of such a loop is `Passed i`; that of one that asks
-- whether some row passes a test is `Missed i`.
use Prim.Native.Nat.{ℕ, zero, suc, ◌+◌, ◌-◌, ◌≤◌, ◌<◌}
use mathlib.Core.Path.{◌≡◌, refl, sym, ap, ◌∙◌}
use mathlib.Core.Bool.{Bool, true, false, ◌||◌, cond}
use mathlib.Core.Option.{Option, none, some}
use native.Mathlib.Nat.{sub-zero}
use native.Mathlib.Numerals.{add-one}
use native.Mathlib.Omega.{arith}
use Rattle.meaning.specs.Lists.{any, fault_from, first_fault}
use Rattle.rows.specs.Rows.{rows_from, read_rows}
use Rattle.schema.specs.Previous.{previous_row}

pub previous_row_lem : {A : Type 0} (read : ℕ → A) (i : ℕ) → (i ≡ 0 → ⊥) → previous_row read i ≡ some (read (i - 1))
previous_row_lem read zero d = absurd (d refl)
previous_row_lem read (suc i) d = let e : i ≡ suc i - 1 = omega arith in ap (λ j. some (read j)) e

module _ {A : Type 0} (faulty : ℕ → Option A → A → Bool) (read : ℕ → A) (n : ℕ) where
  -- what a scan of n rows finds from row i on
  unfoldable pub scan : ℕ → Option ℕ
  scan i = fault_from faulty i (previous_row read i) (rows_from read i (n - i))

  -- the rows before row i are passed: none of them is faulty
  abbrev pub Passed : ℕ → Type 0
  Passed i = first_fault faulty (read_rows read n) ≡ scan i

  pub passed_none : Passed 0
  unfolding scan
  passed_none = ap (λ m. fault_from faulty 0 none (rows_from read 0 m)) (sym (sub-zero n))

  -- one row, and the rows after it
  scan_step : (i : ℕ) → i < n → scan i ≡ cond (faulty i (previous_row read i) (read i)) (some i) (scan (i + 1))
  unfolding scan
  scan_step i h =
      let e : n - i ≡ suc (n - suc i) = omega arith in
      rw add-one (ap (λ m. fault_from faulty i (previous_row read i) (rows_from read i m)) e)

  pub passed_more : {i : ℕ} → Passed i → i < n → faulty i (previous_row read i) (read i) ≡ false → Passed (i + 1)
  passed_more {i} p h e = p ∙ scan_step i h ∙ ap (λ b. cond b (some i) (scan (i + 1))) e

  pub passed_found : {i : ℕ} → Passed i → i < n → faulty i (previous_row read i) (read i) ≡ true → first_fault faulty (read_rows read n) ≡ some i
  passed_found {i} p h e = p ∙ scan_step i h ∙ ap (λ b. cond b (some i) (scan (i + 1))) e

  pub passed_all : {i : ℕ} → Passed i → n ≤ i → first_fault faulty (read_rows read n) ≡ none
  unfolding scan
  passed_all {i} p h =
      let e : n - i ≡ 0 = omega arith in
      p ∙ ap (λ m. fault_from faulty i (previous_row read i) (rows_from read i m)) e

module _ {A : Type 0} (test : A → Bool) (read : ℕ → A) (n : ℕ) where
  -- some row from row i on passes the test
  unfoldable pub any_from : ℕ → Bool
  any_from i = any test (rows_from read i (n - i))

  -- no row before row i does
  abbrev pub Missed : ℕ → Type 0
  Missed i = any test (read_rows read n) ≡ any_from i

  pub missed_none : Missed 0
  unfolding any_from
  missed_none = ap (λ m. any test (rows_from read 0 m)) (sym (sub-zero n))

  any_step : (i : ℕ) → i < n → any_from i ≡ (test (read i) || any_from (i + 1))
  unfolding any_from
  any_step i h =
      let e : n - i ≡ suc (n - suc i) = omega arith in
      rw add-one (ap (λ m. any test (rows_from read i m)) e)

  pub missed_more : {i : ℕ} → Missed i → i < n → test (read i) ≡ false → Missed (i + 1)
  missed_more {i} p h e = p ∙ any_step i h ∙ ap (λ b. b || any_from (i + 1)) e

  pub missed_hit : {i : ℕ} → Missed i → i < n → test (read i) ≡ true → any test (read_rows read n) ≡ true
  missed_hit {i} p h e = p ∙ any_step i h ∙ ap (λ b. b || any_from (i + 1)) e

  pub missed_all : {i : ℕ} → Missed i → n ≤ i → any test (read_rows read n) ≡ false
  unfolding any_from
  missed_all {i} p h =
      let e : n - i ≡ 0 = omega arith in
      p ∙ ap (λ m. any test (rows_from read i m)) e
