-- `line_writer::pieces::number` meets its contract.
use native.Mathlib.Omega.{arith}
use Rattle.line_writer.proofs.Puts.{put_of, put_then, put_as}
use Rattle.line_writer.proofs.Spellings.{number_token}
use Rattle.line_writer.proofs.pieces.number.Goals as goal

pub returns : goal.returns
returns c =
    put_as (put_then (put_of c.write_bytes-next.ensures) (put_of c.write_number.ensures)) (number_token _ (omega arith))
