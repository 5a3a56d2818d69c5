-- `register_faults::faults::object_fault` meets its contract. The invariant: the objects before the row are passed. The measure is what is left of them.
use mathlib.Core.Path.{sym, ◌∙◌}
use Rattle.meaning.specs.Register.{object_fault}
use Rattle.schema.proofs.Scan.{passed_none, passed_more, passed_found, passed_all}
use Rattle.register_faults.proofs.faults.object_fault.Goals as goal

pub loop-row-init : goal.loop-row-init
loop-row-init c = passed_none _ _ _

pub returns-then-faulty_object : goal.returns-then-faulty_object
unfolding object_fault
returns-then-faulty_object c = λ ls. rw (passed_found _ _ _ c.loop-row.invariant c.loop-row-test.true (sym c.faulty_object.ensures ∙ c.if-faulty_object.true))

pub loop-row-preserved : goal.loop-row-preserved
loop-row-preserved c = passed_more _ _ _ c.loop-row.invariant c.loop-row-test.true (sym c.faulty_object.ensures ∙ c.if-faulty_object.false)

pub returns : goal.returns
unfolding object_fault
returns c = λ ls. rw (passed_all _ _ _ c.loop-row.invariant c.loop-row-test.false)
