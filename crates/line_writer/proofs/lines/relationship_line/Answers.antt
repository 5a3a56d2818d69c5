-- `line_writer::lines::relationship_line` meets its contract.
use mathlib.Core.Path.{ap₂}
use mathlib.Core.List.{[], ◌∷◌}
use Rattle.text.specs.Names.{relationship_name}
use Rattle.line_writer.specs.Lines.{row_line, relationship_line}
use Rattle.line_writer.proofs.Puts.{put_as}
use Rattle.line_writer.proofs.lines.relationship_line.Goals as goal

pub returns : goal.returns
unfolding relationship_line
returns c =
    put_as c.row_line.ensures (ap₂ (λ p q. row_line relationship_name (c.args.row ∷ p ∷ q ∷ [])) c.word-source.ensures c.word-target.ensures)
