-- `event_lines::line` meets its contract.
use native.Mathlib.Omega.{arith}
use Rattle.line_writer.proofs.Puts.{put_of, put_then, put_as, put_within}
use Rattle.event_lines.proofs.Lines.{line_is, line_long}
use Rattle.event_lines.proofs.line.Goals as goal

pub events-c-requires : goal.events-c-requires
events-c-requires c =
    (c.requires.0, c.requires.1, put_within c.number-b.ensures)

pub returns : goal.returns
returns c =
    let a = c.args in (
      put_as
          (put_then (put_then (put_then (put_of c.write_bytes-a.ensures) c.number-b.ensures) c.events-c.ensures) (put_of c.write_bytes.ensures))
          (line_is _ _),
      line_long a.«rule» a.list.now (omega arith) (λ k. omega (arith, c.type_inv.list k)) a.count c.requires.1,
    )
