-- `typing::member_type` meets its contract. The loop's invariant: the collection that ends with the row has the members asked for.
-- The measure is the row.
use Rattle.body_rows.specs.Marks.{body_of}
use Rattle.typing.proofs.Types.{Members}
use Rattle.typing.proofs.member_type.Given as goal

abbrev pub invariant-loop-index : goal.invariant-loop-index
invariant-loop-index l = Members (body_of l.bodies l.at.rule) l.at.end l.row

abbrev pub decreases-loop-index : goal.decreases-loop-index
decreases-loop-index l = l.row
