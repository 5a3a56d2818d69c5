-- `register::floors::below_floor` meets its contract. The invariant: no cell before this one is below 0 and floored. The measure is how
-- many cells are left.
use mathlib.Core.Path.{sym, ◌∙◌}
use Rattle.register.proofs.Below.{cell_hit, none_hit}
use Rattle.register.proofs.floors.below_floor.Goals as goal

pub returns-then-cell_below : goal.returns-then-cell_below
returns-then-cell_below c = sym (cell_hit _ _ _ _ _ _ (sym c.cell_below.ensures ∙ c.if-cell_below.true))

pub returns : goal.returns
returns c = sym (none_hit _ _ _ _ _ c.loop-cell.invariant c.loop-cell-test.false)
