-- `going_back::base_row` meets its contract. The loop's invariant: the collection that ends with the row has the base asked for. The measure is the row.
use Prim.Native.Nat.{suc}
use Rattle.body_rows.specs.Marks.{body_of}
use Rattle.going_back.proofs.Bases.{Bases}
use Rattle.going_back.proofs.base_row.Given as goal

abbrev pub invariant-loop-at : goal.invariant-loop-at
invariant-loop-at l = Bases (body_of l.bodies l.rule) (suc l.initial.row) l.row

abbrev pub decreases-loop-at : goal.decreases-loop-at
decreases-loop-at l = l.row
