-- `register::floors::cell_below` meets its contract.
use mathlib.Core.Path.{sym, ◌∙◌}
use Rattle.register.proofs.Cells.{cell_negative}
use Rattle.register.proofs.floors.cell_below.Goals as goal

pub returns-then-is_negative : goal.returns-then-is_negative
returns-then-is_negative c =
    rw (sym (cell_negative _ _ _ c.cell_of.ensures c.is_negative.ensures) ∙ c.if-is_negative.true) c.floored.ensures

pub returns-else-is_negative : goal.returns-else-is_negative
returns-else-is_negative c =
    rw (sym (cell_negative _ _ _ c.cell_of.ensures c.is_negative.ensures) ∙ c.if-is_negative.false)
