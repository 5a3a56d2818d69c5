-- `line_writer::lines::plain_line` meets its contract.
use Rattle.line_writer.specs.Lines.{plain_line}
use Rattle.line_writer.proofs.lines.plain_line.Goals as goal

pub returns : goal.returns
unfolding plain_line
returns c = c.row_line.ensures
