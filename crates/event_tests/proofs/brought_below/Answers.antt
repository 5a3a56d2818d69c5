-- `event_tests::brought_below` meets its contract.
use mathlib.Core.Path.{◌∙◌}
use Rattle.meaning.specs.Events.{brought_below}
use Rattle.event_tests.proofs.Tests.{found_answer, missing_answer}
use Rattle.event_tests.proofs.brought_below.Goals as goal

pub returns-in-Some : goal.returns-in-Some
unfolding brought_below
returns-in-Some c =
    let x = c.args in
    λ rs ls.
    c.below_floor.ensures
    ∙ found_answer x.count x.objects.now ls x.id _ c.in-Some.is c.object_row.ensures

pub returns-in-None : goal.returns-in-None
unfolding brought_below
returns-in-None c =
    let x = c.args in
    λ rs ls. missing_answer x.count x.objects.now ls x.id _ c.in-None.is c.object_row.ensures
