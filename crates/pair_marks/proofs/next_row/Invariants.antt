-- `pair_marks::next_row` meets its contract: no row from the first up to the row is marked.
use Prim.Native.Nat.{ℕ, ◌-◌, ◌≤◌, ◌<◌}
use mathlib.Core.Path.{◌≡◌}
use mathlib.Core.Bool.{false}
use Rattle.pair_marks.specs.Marks.{marked}
use Rattle.pair_marks.proofs.next_row.Given as goal

abbrev pub invariant-loop-row : goal.invariant-loop-row
invariant-loop-row l = (l.from ≤ l.row) × (l.row ≤ 1024) × ((x : ℕ) → l.from ≤ x → x < l.row → marked l.marks l.rule x ≡ false)

abbrev pub decreases-loop-row : goal.decreases-loop-row
decreases-loop-row l = 1024 - l.row
