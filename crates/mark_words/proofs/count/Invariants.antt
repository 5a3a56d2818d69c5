-- `mark_words::count` meets its contract.
use Prim.Native.Nat.{◌≤◌, ◌-◌}
use mathlib.Core.Path.{◌≡◌}
use lib.ListN.{length}
use Rattle.type_marks.specs.Marks.{places}
use Rattle.mark_words.specs.Places.{marked_below}
use Rattle.mark_words.proofs.count.Given as goal

abbrev pub invariant-loop-place : goal.invariant-loop-place
invariant-loop-place l = (l.place ≤ places) × (l.n ≡ length (marked_below l.marks l.place))
