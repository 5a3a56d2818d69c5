-- `event_tests::is_under` meets its contract.
use mathlib.Core.Path.{ap, ◌∙◌}
use Rattle.meaning.specs.Schema.{under}
use Rattle.meaning.specs.Register.{is_under}
use Rattle.tables.specs.Columns.{types_of}
use Rattle.event_tests.proofs.Tests.{found_answer, missing_answer}
use Rattle.event_tests.proofs.is_under.Goals as goal

pub returns-in-Some : goal.returns-in-Some
unfolding is_under
returns-in-Some c =
    let x = c.args in
    λ ls.
    c.under.ensures ∙ ap (λ own. under (types_of x.type_count x.types.now) own x.t) c.type_of.ensures
    ∙ found_answer x.count x.objects.now ls x.id _ c.in-Some.is c.object_row.ensures

pub returns-in-None : goal.returns-in-None
unfolding is_under
returns-in-None c =
    let x = c.args in
    λ ls. missing_answer x.count x.objects.now ls x.id _ c.in-None.is c.object_row.ensures
