-- `event_tests::has_cell` meets its contract.
use mathlib.Core.Path.{ap, ◌∙◌}
use lib.Dec.{ltb}
use Rattle.meaning.specs.Schema.{cells_of}
use Rattle.meaning.specs.Events.{has_cell}
use Rattle.tables.specs.Columns.{types_of}
use Rattle.event_tests.proofs.Tests.{found_answer, missing_answer}
use Rattle.event_tests.proofs.has_cell.Goals as goal

pub returns-in-Some : goal.returns-in-Some
unfolding has_cell
returns-in-Some c =
    let x = c.args in
    λ ls.
    ap (ltb x.cell) (c.cells_of.ensures ∙ ap (cells_of (types_of x.type_count x.types.now)) c.type_of.ensures)
    ∙ found_answer x.count x.objects.now ls x.id _ c.in-Some.is c.object_row.ensures

pub returns-in-None : goal.returns-in-None
unfolding has_cell
returns-in-None c =
    let x = c.args in
    λ ls. missing_answer x.count x.objects.now ls x.id _ c.in-None.is c.object_row.ensures
