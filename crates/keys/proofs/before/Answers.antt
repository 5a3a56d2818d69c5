-- `keys::before` meets its contract. The loop's invariant: the answer is that of the columns from this one on.
use mathlib.Core.Path.{sym, ◌∙◌}
use Rattle.keys.proofs.Keys.{before_start, before_short, before_differs, before_alike, before_end}
use Rattle.keys.proofs.before.Goals as goal

pub loop-column-init : goal.loop-column-init
loop-column-init c = before_start _ _ _

pub returns-then-key-at : goal.returns-then-key-at
returns-then-key-at c = sym (c.loop-column.invariant ∙ before_short _ _ _ c.loop-column-test.true c.if-key-at.true)

pub returns-then-w-k : goal.returns-then-w-k
returns-then-w-k c =
    sym (c.loop-column.invariant ∙ before_differs _ _ _ c.loop-column-test.true c.if-key-at.false c.word-w.ensures c.if-w-k.true)

pub loop-column-preserved : goal.loop-column-preserved
loop-column-preserved c =
    c.loop-column.invariant ∙ before_alike _ _ _ c.loop-column-test.true c.if-key-at.false c.word-w.ensures c.if-w-k.false

pub returns : goal.returns
returns c = sym (c.loop-column.invariant ∙ before_end _ _ _ c.loop-column-test.false)
