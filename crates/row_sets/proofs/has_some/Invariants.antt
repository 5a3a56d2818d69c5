-- `row_sets::has_some` meets its contract. The loop's invariant: no row that was passed is in the set.
use Prim.Native.Nat.{ℕ, ◌<◌}
use mathlib.Core.Path.{◌≡◌}
use mathlib.Core.Bool.{true, false}
use Rattle.row_sets.specs.Sets.{sets_of, in_set}
use Rattle.row_sets.proofs.has_some.Given as goal

abbrev pub invariant-loop-row : goal.invariant-loop-row
invariant-loop-row l = (k : ℕ) → k < l.row → in_set (sets_of l.marks l.sets) l.v k ≡ true → ◌≡◌ false true
