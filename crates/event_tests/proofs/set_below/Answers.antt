-- `event_tests::set_below` meets its contract.
use mathlib.Core.Path.{sym, ap, ◌∙◌}
use borrow.Author.Tests.{not-true, not-false}
use Rattle.meaning.specs.Schema.{floored}
use Rattle.meaning.specs.Events.{set_below}
use Rattle.tables.specs.Columns.{types_of, floors_of}
use Rattle.event_tests.proofs.Tests.{found_answer, missing_answer}
use mathlib.Core.Bool.{not}
use Rattle.event_tests.proofs.set_below.Goals as goal

pub returns-then-not-is_negative : goal.returns-then-not-is_negative
unfolding set_below
returns-then-not-is_negative c = λ rs ls. rw (sym c.is_negative.ensures ∙ not-true _ (ap not c.if-not-is_negative.true))

pub returns-in-Some : goal.returns-in-Some
unfolding set_below
returns-in-Some c =
    let x = c.args in
    λ rs ls.
    rw (sym c.is_negative.ensures ∙ not-false _ (ap not c.if-not-is_negative.false))
    (c.floored.ensures
    ∙ ap (λ t. floored (types_of x.type_count x.types.now) (floors_of x.floor_count x.floors.now) t x.cell) c.type_of-t.ensures
    ∙ found_answer x.count x.objects.now ls x.id _ c.in-Some.is c.object_row.ensures)

pub returns-in-None : goal.returns-in-None
unfolding set_below
returns-in-None c =
    let x = c.args in
    λ rs ls.
    rw (sym c.is_negative.ensures ∙ not-false _ (ap not c.if-not-is_negative.false))
    (missing_answer x.count x.objects.now ls x.id _ c.in-None.is c.object_row.ensures)
