-- `keys::place` meets its contract. The invariant: the place lies from low to high. The measure is the distance of the two.
use mathlib.Core.Path.{sym, ◌∙◌}
use native.Mathlib.Omega.{arith}
use Rattle.keys.proofs.Keys.{bracket_up, bracket_down}
use Rattle.keys.proofs.place.Goals as goal

pub loop-low-preserved-then-before : goal.loop-low-preserved-then-before
loop-low-preserved-then-before c =
    let ascend = c.requires in
    bracket_up _ _ _ ascend c.loop-low.invariant _ (omega arith) (omega arith) (sym c.before-in-loop-low.ensures ∙ c.if-before.true)

pub loop-low-preserved : goal.loop-low-preserved
loop-low-preserved c =
    let ascend = c.requires in
    bracket_down _ _ _ ascend c.loop-low.invariant _ (omega arith) (omega arith) (sym c.before-in-loop-low.ensures ∙ c.if-before.false)
