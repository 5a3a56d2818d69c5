-- `touched::shared` meets its contract: no place that was passed is marked in both.
use Prim.Native.Nat.{◌≤◌, ◌-◌}
use mathlib.Core.Path.{◌≡◌}
use mathlib.Core.Bool.{false}
use Rattle.type_marks.specs.Marks.{places}
use Rattle.touched.specs.Shared.{shared_below}
use Rattle.touched.proofs.shared.Given as goal

abbrev pub invariant-loop-place : goal.invariant-loop-place
invariant-loop-place l = (l.place ≤ places) × (shared_below l.a l.b l.place ≡ false)
