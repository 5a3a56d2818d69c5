-- `walks::next_instance` meets its contract. The loop's invariant: the rows passed have left nothing out.
use mathlib.Core.Path.{◌∙◌}
use Rattle.tables.specs.Columns.{types_of}
use Rattle.walks.proofs.Objects.{row_taken, row_passed}
use Rattle.walks.proofs.Steps.{stepped_at}
use Rattle.walks.proofs.next_instance.Goals as goal

pub returns-then-under : goal.returns-then-under
returns-then-under c =
    let start = c.args in
    let loop = c.loop-row in
    let inside = c.loop-row-test.true in
    let types = types_of start.type_count start.types.now in
    let taken = row_taken types start.objects.now start.object_count start.t inside c.type_of.ensures c.under.ensures c.if-under.true in
    stepped_at (record { member = loop.invariant ∙ taken; there = inside; stands = tt })

pub loop-row-preserved : goal.loop-row-preserved
loop-row-preserved c =
    let start = c.args in
    let types = types_of start.type_count start.types.now in
    let inside = c.loop-row-test.true in
    c.loop-row.invariant
    ∙ row_passed types start.objects.now start.object_count start.t inside c.type_of.ensures c.under.ensures c.if-under.false
