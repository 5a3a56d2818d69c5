-- `event_refusals::refusal` meets its contract.
use Rattle.tables.specs.Columns.{event_row}
use Rattle.event_refusals.proofs.refusal.Goals as goal

pub returns : goal.returns
unfolding event_row
returns c =
    λ w.
    rw (← c.word-kind.ensures, ← c.word-x.ensures, ← c.word-y.ensures, ← c.word-z.ensures)
    (c.of_event.ensures w)
