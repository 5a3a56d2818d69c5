-- `tokens::items` meets its contract. The loop's invariant: the items in the array and the tokens from i on give the answer.
use Prim.Native.Nat.{◌-◌}
use lib.ListN.{length, drop}
use Rattle.tokens.specs.Tokens.{items_at}
use Rattle.tokens.proofs.Counted.{Reading}
use Rattle.tokens.proofs.items.Given as goal

abbrev pub invariant-loop-value : goal.invariant-loop-value
invariant-loop-value l = Reading l.line l.i l.values l.count (items_at (drop l.at l.line))

abbrev pub decreases-loop-value : goal.decreases-loop-value
decreases-loop-value l = length l.line - l.i
