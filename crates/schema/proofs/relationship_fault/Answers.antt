-- `schema::relationship_fault` meets its contract. The invariant: the relationships before this one are passed. The measure is what is left of them.
use mathlib.Core.Path.{sym, ◌∙◌}
use Rattle.meaning.specs.Schema.{relationship_fault}
use Rattle.schema.proofs.Scan.{passed_none, passed_more, passed_found, passed_all}
use Rattle.schema.proofs.relationship_fault.Goals as goal

pub loop-relationship-init : goal.loop-relationship-init
loop-relationship-init c = λ types. passed_none _ _ _

pub returns-then-faulty_relationship : goal.returns-then-faulty_relationship
unfolding relationship_fault
returns-then-faulty_relationship c = λ types floors. rw (passed_found _ _ _ (c.loop-relationship.invariant types) c.loop-relationship-test.true (sym (c.faulty_relationship.ensures types _) ∙ c.if-faulty_relationship.true))

pub loop-relationship-preserved : goal.loop-relationship-preserved
loop-relationship-preserved c = λ types. passed_more _ _ _ (c.loop-relationship.invariant types) c.loop-relationship-test.true (sym (c.faulty_relationship.ensures types _) ∙ c.if-faulty_relationship.false)

pub returns : goal.returns
unfolding relationship_fault
returns c = λ types floors. rw (passed_all _ _ _ (c.loop-relationship.invariant types) c.loop-relationship-test.false)
