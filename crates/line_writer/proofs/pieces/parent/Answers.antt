-- `line_writer::pieces::parent` meets its contract.
use Rattle.line_writer.proofs.Puts.{put_of, put_as}
use Rattle.line_writer.proofs.Spellings.{no_parent_lem, some_parent}
use Rattle.line_writer.proofs.pieces.parent.Goals as goal

pub returns-then-word-eq-NO_PARENT : goal.returns-then-word-eq-NO_PARENT
returns-then-word-eq-NO_PARENT c = put_as (put_of c.write_bytes.ensures) (no_parent_lem _ c.if-word-eq-NO_PARENT.true)

pub returns : goal.returns
returns c = put_as c.number.ensures (some_parent _ c.if-word-eq-NO_PARENT.false)
