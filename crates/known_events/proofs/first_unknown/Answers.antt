-- `known_events::first_unknown` meets its contract. The invariant: the events before `row` are passed.
use mathlib.Core.Path.{sym, ap, ◌∙◌}
use mathlib.Core.Bool.{not}
use Rattle.tables.specs.Columns.{floors_of}
use Rattle.schema.proofs.Scan.{passed_none, passed_more, passed_found, passed_all}
use Rattle.tables.specs.Refusals.{event_fault}
use Rattle.known_events.proofs.first_unknown.Goals as goal

pub loop-row-init : goal.loop-row-init
loop-row-init c = λ types fs relationships. passed_none _ _ _

pub returns-then-not-event_known : goal.returns-then-not-event_known
unfolding event_fault
returns-then-not-event_known c =
    λ types floors relationships rules bodies objects links.
    let fs = floors_of c.args.n.floors floors in
    rw (passed_found _ _ _ (c.loop-row.invariant types fs relationships) c.loop-row-test.true (ap not (sym (c.event_known.ensures types fs relationships)) ∙ (ap not c.if-not-event_known.true)))

pub loop-row-preserved : goal.loop-row-preserved
loop-row-preserved c = λ types fs relationships. passed_more _ _ _ (c.loop-row.invariant types fs relationships) c.loop-row-test.true (ap not (sym (c.event_known.ensures types fs relationships)) ∙ (ap not c.if-not-event_known.false))

pub returns : goal.returns
unfolding event_fault
returns c =
    λ types floors relationships rules bodies objects links.
    let fs = floors_of c.args.n.floors floors in
    rw (passed_all _ _ _ (c.loop-row.invariant types fs relationships) c.loop-row-test.false)
