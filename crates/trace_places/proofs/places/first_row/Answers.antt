-- `trace_places::places::first_row` meets its contract.
use mathlib.Core.Path.{sym, ap, ◌∙◌}
use Rattle.tables.specs.Columns.{event_of, event_row}
use Rattle.trace_places.specs.Traces.{named_at, row_named}
use Rattle.trace_places.proofs.places.first_row.Goals as goal

pub returns : goal.returns
unfolding event_row
returns c =
    let a = c.args in
    let row = row_named a.object_count a.objects.now in
    c.end_row.ensures
    ∙ sym (ap row c.first_id-id.ensures)
    ∙ (λ i. row (named_at (event_of (c.word-kind.ensures i) (c.word-x.ensures i) (c.word-y.ensures i) (c.word-z.ensures i)) 0))
