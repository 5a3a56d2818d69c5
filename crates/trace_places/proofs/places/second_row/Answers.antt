-- `trace_places::places::second_row` meets its contract.
use mathlib.Core.Path.{sym, ap, ◌∙◌}
use Rattle.rows.specs.Rows.{word_at}
use Rattle.tables.specs.Columns.{event_of, event_row}
use Rattle.trace_places.specs.Traces.{named_at, row_named}
use Rattle.trace_places.proofs.Naming.{join_second, part_second, no_second}
use Rattle.trace_places.proofs.places.second_row.Goals as goal

pub returns-then-kind-eq-JOIN : goal.returns-then-kind-eq-JOIN
unfolding event_row
returns-then-kind-eq-JOIN c =
    let a = c.args in
    let x = word_at a.events.now 4 a.i 1 in
    let y = word_at a.events.now 4 a.i 2 in
    let row = row_named a.object_count a.objects.now in
    c.end_row.ensures
    ∙ sym (ap row (join_second x y c.word-z.result c.if-kind-eq-JOIN.true))
    ∙ (λ k. row (named_at (event_of (c.word-kind.ensures k) x y (c.word-z.ensures k)) 1))

pub returns-then-kind-eq-PART : goal.returns-then-kind-eq-PART
unfolding event_row
returns-then-kind-eq-PART c =
    let a = c.args in
    let x = word_at a.events.now 4 a.i 1 in
    let y = word_at a.events.now 4 a.i 2 in
    let row = row_named a.object_count a.objects.now in
    c.end_row-then-kind-eq-PART.ensures
    ∙ sym (ap row (part_second x y c.word-z.result c.if-kind-eq-PART.true))
    ∙ (λ k. row (named_at (event_of (c.word-kind.ensures k) x y (c.word-z.ensures k)) 1))

pub returns : goal.returns
unfolding event_row
returns c =
    let a = c.args in
    let x = word_at a.events.now 4 a.i 1 in
    let y = word_at a.events.now 4 a.i 2 in
    let row = row_named a.object_count a.objects.now in
    sym (ap row (no_second x y c.word-z.result c.word-kind.result c.if-kind-eq-JOIN.false c.if-kind-eq-PART.false))
    ∙ (λ k. row (named_at (event_of (c.word-kind.ensures k) x y (c.word-z.ensures k)) 1))
