-- `line_writer::pieces::row_line` meets its contract.
use Rattle.line_writer.proofs.Puts.{put_then, put_as, put_within}
use Rattle.line_writer.proofs.Spellings.{row_line_lem}
use Rattle.line_writer.proofs.pieces.row_line.Goals as goal

pub numbers-b-requires : goal.numbers-b-requires
numbers-b-requires c =
    (c.requires.1, put_within c.open-a.ensures)

pub returns : goal.returns
returns c =
    put_as (put_then (put_then c.open-a.ensures c.numbers-b.ensures) c.end_line.ensures) (row_line_lem _ _)
