-- `park_answers::print_tables` meets its contract.
use mathlib.Core.Path.{ap, ◌∙◌}
use lib.ListN.{length}
use Rattle.rows.specs.Rows.{in_front}
use Rattle.tables.specs.Layouts.{sheet_of}
use Rattle.park_answers.proofs.Printing.{check_asked, full_asked, events_asked, after_asked}
use Rattle.park_answers.proofs.print_tables.Goals as goal

pub returns-in-Check : goal.returns-in-Check
returns-in-Check c =
    let a = c.args in
    let e = check_asked a.n (sheet_of a.types.now a.floors.now a.relationships.now a.rules.now a.bodies.now a.objects.now a.links.now a.events.now) c.in-Check.is in
    (c.print_check.ensures.0 ∙ ap (λ b. in_front b a.out.now) e, c.print_check.ensures.1 ∙ ap length e)

pub returns-in-Full : goal.returns-in-Full
returns-in-Full c =
    let a = c.args in
    let e = full_asked a.n a.types.now a.floors.now a.relationships.now a.rules.now a.bodies.now a.objects.now a.links.now a.events.now c.in-Full.is in
    (c.print_full.ensures.0 ∙ ap (λ b. in_front b a.out.now) e, c.print_full.ensures.1 ∙ ap length e)

pub returns-in-Events : goal.returns-in-Events
returns-in-Events c =
    let a = c.args in
    let e = events_asked a.n a.types.now a.floors.now a.relationships.now a.rules.now a.bodies.now a.objects.now a.links.now a.events.now c.in-Events.is in
    (c.print_events.ensures.0 ∙ ap (λ b. in_front b a.out.now) e, c.print_events.ensures.1 ∙ ap length e)

pub returns-in-After : goal.returns-in-After
returns-in-After c =
    let a = c.args in
    let e = after_asked a.n (sheet_of a.types.now a.floors.now a.relationships.now a.rules.now a.bodies.now a.objects.now a.links.now a.events.now) c.in-After.is in
    (c.print_after.ensures.0 ∙ ap (λ b. in_front b a.out.now) e, c.print_after.ensures.1 ∙ ap length e)
