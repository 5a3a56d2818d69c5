-- `brackets::body` meets its contract. The loop's invariant: the machine at the open forms in the array and the tokens from i on gives the answer.
use Prim.Native.Nat.{◌-◌}
use lib.ListN.{length, drop}
use Rattle.brackets.specs.Steps.{body_at}
use Rattle.brackets.proofs.Stack.{Running}
use Rattle.brackets.proofs.body.Given as goal

abbrev pub invariant-loop-found : goal.invariant-loop-found
invariant-loop-found l = Running l.line l.i l.outer l.depth l.lacks l.forms (body_at (drop l.at l.line))

abbrev pub decreases-loop-found : goal.decreases-loop-found
decreases-loop-found l = length l.line - l.i
