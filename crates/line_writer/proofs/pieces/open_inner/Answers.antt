-- `line_writer::pieces::open_inner` meets its contract.
use Rattle.text.specs.Tokens.{spell_token}
use Rattle.line_writer.proofs.Puts.{put_of, put_then}
use Rattle.line_writer.proofs.pieces.open_inner.Goals as goal

pub returns : goal.returns
unfolding spell_token
returns c =
    put_then (put_of c.write_bytes-next.ensures) c.before.before.before.«open».ensures
