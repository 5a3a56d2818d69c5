-- `schema::type_fault` meets its contract. The invariant: the types before t are passed. The measure is what is left of them.
use mathlib.Core.Path.{sym, ◌∙◌}
use Rattle.meaning.specs.Schema.{type_fault}
use Rattle.schema.proofs.Scan.{passed_none, passed_more, passed_found, passed_all}
use Rattle.schema.proofs.type_fault.Goals as goal

pub loop-t-init : goal.loop-t-init
loop-t-init c = passed_none _ _ _

pub returns-then-faulty_type : goal.returns-then-faulty_type
unfolding type_fault
returns-then-faulty_type c = rw (passed_found _ _ _ c.loop-t.invariant c.loop-t-test.true (sym (c.faulty_type.ensures _) ∙ c.if-faulty_type.true))

pub loop-t-preserved : goal.loop-t-preserved
loop-t-preserved c = passed_more _ _ _ c.loop-t.invariant c.loop-t-test.true (sym (c.faulty_type.ensures _) ∙ c.if-faulty_type.false)

pub returns : goal.returns
unfolding type_fault
returns c = rw (passed_all _ _ _ c.loop-t.invariant c.loop-t-test.false)
