-- `schema::floors::floored` meets its contract. The invariant: no floor before the row floors the cell. The measure is what is left of them.
use mathlib.Core.Path.{sym, ◌∙◌}
use Rattle.meaning.specs.Schema.{floored}
use Rattle.schema.proofs.Scan.{missed_none, missed_more, missed_hit, missed_all}
use Rattle.schema.proofs.floors.floored.Goals as goal

pub loop-row-init : goal.loop-row-init
loop-row-init c = missed_none _ _ _

pub returns-then-floors_cell : goal.returns-then-floors_cell
unfolding floored
returns-then-floors_cell c =
    sym (missed_hit _ _ _ c.loop-row.invariant c.loop-row-test.true (sym c.floors_cell.ensures ∙ c.if-floors_cell.true))

pub loop-row-preserved : goal.loop-row-preserved
loop-row-preserved c =
    missed_more _ _ _ c.loop-row.invariant c.loop-row-test.true (sym c.floors_cell.ensures ∙ c.if-floors_cell.false)

pub returns : goal.returns
unfolding floored
returns c = sym (missed_all _ _ _ c.loop-row.invariant c.loop-row-test.false)
