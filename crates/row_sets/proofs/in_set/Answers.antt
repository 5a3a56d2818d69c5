-- `row_sets::in_set` meets its contract.
use borrow.Author.Tests.{eq-eqb, ne_eqb}
use Rattle.row_sets.specs.Sets.{in_set}
use Rattle.row_sets.proofs.in_set.Goals as goal

pub returns-then-v-eq-SELF : goal.returns-then-v-eq-SELF
unfolding in_set
returns-then-v-eq-SELF c = rw (eq-eqb c.args.v 0 c.if-v-eq-SELF.true)

pub returns : goal.returns
unfolding in_set
returns c = rw (ne_eqb c.args.v 0 c.if-v-eq-SELF.false)
