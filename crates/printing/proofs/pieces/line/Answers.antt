-- `printing::pieces::line` meets its contract.
use Rattle.line_writer.proofs.Puts.{put_of, put_then, put_as}
use Rattle.printing.proofs.Lines.{line_two}
use Rattle.printing.proofs.pieces.line.Goals as goal

pub returns : goal.returns
returns c =
    put_as
    (put_then (put_then (put_then (put_of c.write_bytes-a.ensures) c.number-b.ensures) c.number-c.ensures) (put_of c.write_bytes.ensures))
    (line_two _ _ _)
