use borrow.Author.Tests.{eq-eqb, ne_eqb}
use Rattle.operators.specs.Operators.{quantifier_of, stopping}
use Rattle.operators.proofs.operators.stops.Goals as goal

pub returns-then-code-eq11 : goal.returns-then-code-eq11
unfolding quantifier_of stopping
returns-then-code-eq11 c = rw (eq-eqb _ _ c.if-code-eq11.true)

pub returns-else-code-eq11 : goal.returns-else-code-eq11
unfolding quantifier_of stopping
returns-else-code-eq11 c = rw (ne_eqb _ _ c.if-code-eq11.false)
