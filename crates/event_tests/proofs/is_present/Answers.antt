-- `event_tests::is_present` meets its contract.
use mathlib.Core.Bool.{true}
use Rattle.meaning.specs.Register.{present}
use Rattle.event_tests.proofs.Tests.{found_answer, missing_answer}
use Rattle.event_tests.proofs.is_present.Goals as goal

pub returns-in-Some : goal.returns-in-Some
unfolding present
returns-in-Some c =
    let x = c.args in
    λ ls. found_answer x.count x.objects.now ls x.id (λ o. true) c.in-Some.is c.object_row.ensures

pub returns-in-None : goal.returns-in-None
unfolding present
returns-in-None c =
    let x = c.args in
    λ ls. missing_answer x.count x.objects.now ls x.id (λ o. true) c.in-None.is c.object_row.ensures
