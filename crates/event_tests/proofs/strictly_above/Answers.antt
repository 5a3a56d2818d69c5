-- `event_tests::strictly_above` meets its contract.
use mathlib.Core.Path.{sym, ap, ◌∙◌}
use mathlib.Core.Bool.{◌&&◌, not}
use lib.Dec.{eqb}
use Rattle.meaning.specs.Schema.{under}
use Rattle.meaning.specs.Events.{strictly_above}
use Rattle.tables.specs.Columns.{types_of}
use Rattle.event_tests.proofs.Tests.{found_answer, missing_answer}
use Rattle.event_tests.proofs.strictly_above.Goals as goal

pub returns-then-under : goal.returns-then-under
unfolding strictly_above
returns-then-under c =
    let x = c.args in
    let types = types_of x.type_count x.types.now in
    λ ls.
    ap (λ b. b && not (eqb x.t c.type_of-own.result)) (sym c.if-under.true ∙ c.under.ensures)
    ∙ ap (λ own. under types x.t own && not (eqb x.t own)) c.type_of-own.ensures
    ∙ found_answer x.count x.objects.now ls x.id _ c.in-Some.is c.object_row.ensures

pub returns-else-under : goal.returns-else-under
unfolding strictly_above
returns-else-under c =
    let x = c.args in
    let types = types_of x.type_count x.types.now in
    λ ls.
    ap (λ b. b && not (eqb x.t c.type_of-own.result)) (sym c.if-under.false ∙ c.under.ensures)
    ∙ ap (λ own. under types x.t own && not (eqb x.t own)) c.type_of-own.ensures
    ∙ found_answer x.count x.objects.now ls x.id _ c.in-Some.is c.object_row.ensures

pub returns-in-None : goal.returns-in-None
unfolding strictly_above
returns-in-None c =
    let x = c.args in
    λ ls. missing_answer x.count x.objects.now ls x.id _ c.in-None.is c.object_row.ensures
