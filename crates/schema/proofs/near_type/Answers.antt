-- `schema::near_type` meets its contract. Whether the role is even picks the end.
use borrow.Author.Tests.{eq-eqb, ne_eqb}
use Rattle.meaning.specs.Schema.{near_type}
use Rattle.schema.proofs.near_type.Goals as goal

pub returns-then-role-eq0 : goal.returns-then-role-eq0
unfolding near_type
returns-then-role-eq0 c = rw (eq-eqb _ _ c.if-role-eq0.true) c.source_type.ensures

pub returns-else-role-eq0 : goal.returns-else-role-eq0
unfolding near_type
returns-else-role-eq0 c = rw (ne_eqb _ _ c.if-role-eq0.false) c.target_type.ensures
