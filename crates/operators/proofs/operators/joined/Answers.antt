use Rattle.meaning.specs.Meaning.{connected}
use Rattle.operators.proofs.Connectives.{code_and, code_or, code_xor, code_implies, xor_true}
use Rattle.operators.proofs.operators.joined.Goals as goal

pub returns-then-left : goal.returns-then-left
unfolding connected
returns-then-left c = rw (code_and _ c.if-code-eq7.true, c.if-left.true)

pub returns-else-left : goal.returns-else-left
unfolding connected
returns-else-left c = rw (code_and _ c.if-code-eq7.true, c.if-left.false)

pub returns-then-left-2 : goal.returns-then-left-2
unfolding connected
returns-then-left-2 c = rw (code_or _ c.if-code-eq8.true, c.if-left-2.true)

pub returns-else-left-2 : goal.returns-else-left-2
unfolding connected
returns-else-left-2 c = rw (code_or _ c.if-code-eq8.true, c.if-left-2.false)

pub returns-then-left-3 : goal.returns-then-left-3
returns-then-left-3 c = rw (code_xor _ c.if-code-eq9.true, c.if-left-3.true, xor_true)

pub returns-else-left-3 : goal.returns-else-left-3
unfolding connected
returns-else-left-3 c = rw (code_xor _ c.if-code-eq9.true, c.if-left-3.false)

pub returns-then-left-4 : goal.returns-then-left-4
unfolding connected
returns-then-left-4 c =
    rw
    (code_implies _ c.if-code-eq7.false c.if-code-eq8.false c.if-code-eq9.false, c.if-left-4.true)

pub returns-else-left-4 : goal.returns-else-left-4
unfolding connected
returns-else-left-4 c =
    rw
    (code_implies _ c.if-code-eq7.false c.if-code-eq8.false c.if-code-eq9.false, c.if-left-4.false)
