-- `event_lines::event` meets its contract.
use Rattle.line_writer.proofs.Puts.{put_then, put_as}
use Rattle.event_lines.proofs.Lines.{set_shown, other_shown}
use Rattle.event_lines.proofs.event.Goals as goal

pub returns-then-kind-eq-SET : goal.returns-then-kind-eq-SET
returns-then-kind-eq-SET c =
    put_as (put_then (put_then c.kind_name-a.ensures c.number-b.ensures) c.number.ensures) (set_shown _ _ _ c.requires c.if-kind-eq-SET.true)

pub returns : goal.returns
returns c =
    put_as (put_then c.kind_name-a.ensures c.number-b.ensures) (other_shown _ _ _ c.requires c.if-kind-eq-SET.false)
