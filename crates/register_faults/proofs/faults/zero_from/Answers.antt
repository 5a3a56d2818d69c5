-- `register_faults::faults::zero_from` meets its contract. The invariant: the cells passed are 0. The measure is what is left of the eight.
use mathlib.Core.Path.{sym, ◌∙◌}
use Rattle.register.proofs.Cells.{cells_used, cells_on, cells_end}
use Rattle.register_faults.proofs.faults.zero_from.Goals as goal

pub returns-then-cell_of-ne0 : goal.returns-then-cell_of-ne0
returns-then-cell_of-ne0 c = sym (c.loop-cell.invariant ∙ cells_used _ _ c.cell_of.ensures c.loop-cell-test.true c.if-cell_of-ne0.true)

pub loop-cell-preserved : goal.loop-cell-preserved
loop-cell-preserved c = c.loop-cell.invariant ∙ cells_on _ _ c.cell_of.ensures c.loop-cell-test.true c.if-cell_of-ne0.false

pub returns : goal.returns
returns c = sym (c.loop-cell.invariant ∙ cells_end _ _ c.loop-cell-test.false)
