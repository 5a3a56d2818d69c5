-- `register_faults::faults::link_fault` meets its contract. The invariant: the links before the row are passed. The measure is what is left of them.
use mathlib.Core.Path.{sym, ◌∙◌}
use Rattle.meaning.specs.Register.{link_fault}
use Rattle.schema.proofs.Scan.{passed_none, passed_more, passed_found, passed_all}
use Rattle.register_faults.proofs.faults.link_fault.Goals as goal

pub loop-row-init : goal.loop-row-init
loop-row-init c = λ fs. passed_none _ _ _

pub returns-then-faulty_link : goal.returns-then-faulty_link
unfolding link_fault
returns-then-faulty_link c = λ fs. rw (passed_found _ _ _ (c.loop-row.invariant fs) c.loop-row-test.true (sym (c.faulty_link.ensures fs _) ∙ c.if-faulty_link.true))

pub loop-row-preserved : goal.loop-row-preserved
loop-row-preserved c = λ fs. passed_more _ _ _ (c.loop-row.invariant fs) c.loop-row-test.true (sym (c.faulty_link.ensures fs _) ∙ c.if-faulty_link.false)

pub returns : goal.returns
unfolding link_fault
returns c = λ fs. rw (passed_all _ _ _ (c.loop-row.invariant fs) c.loop-row-test.false)
