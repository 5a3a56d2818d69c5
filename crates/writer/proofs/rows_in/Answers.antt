-- `writer::rows_in` meets its contract: the counts stand in the order of their sections.
use mathlib.Core.Path.{refl}
use Rattle.line_writer.specs.Lines.{rows_in}
use Rattle.writer.proofs.rows_in.Goals as goal

pub returns : goal.returns
unfolding rows_in
returns c = refl
