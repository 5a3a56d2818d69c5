-- `look::look` meets its contract: the lines before are kept, and what is left to read.
use Prim.Native.Nat.{◌-◌}
use lib.ListN.{length}
use Rattle.reading.proofs.Looking.{Looking}
use Rattle.reading.proofs.look.look.Given as goal

abbrev pub invariant-loop-at : goal.invariant-loop-at
invariant-loop-at l = Looking l.text l.room l.at l.n l.counts l.cells l.section

abbrev pub decreases-loop-at : goal.decreases-loop-at
decreases-loop-at l = length l.text - l.at
