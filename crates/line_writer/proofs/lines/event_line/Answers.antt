-- `line_writer::lines::event_line` meets its contract: an event has at most three fields.
use native.Mathlib.Omega.{arith}
use Prim.Native.Nat.{◌+◌, ◌*◌}
use mathlib.Core.Path.{ap}
use lib.ListN.{take, drop}
use Rattle.text.specs.Names.{first_event}
use Rattle.text.specs.Entries.{event_fields}
use Rattle.line_writer.specs.Lines.{row_line, event_line}
use Rattle.line_writer.proofs.Puts.{put_as}
use Rattle.line_writer.proofs.Spellings.{few_fields}
use Rattle.line_writer.proofs.lines.event_line.Goals as goal

pub row_line-requires : goal.row_line-requires
unfolding event_fields
row_line-requires c =
    let k = few_fields c.word-kind.result in
    (omega (arith, c.requires.0, c.word-kind.ensures), omega (arith, c.requires.1))

pub returns : goal.returns
unfolding event_line event_fields
returns c =
    put_as c.row_line.ensures (ap (λ k. row_line (first_event + k) (take (event_fields k) (drop (c.args.row * 4 + 1) c.args.events.now))) c.word-kind.ensures)
