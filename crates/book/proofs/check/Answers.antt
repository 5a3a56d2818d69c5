-- `book::check` meets its contract. The loop's invariant: no rule before this one is faulty.
use mathlib.Core.Path.{sym, ◌∙◌}
use Rattle.meaning.specs.Forms.{rule_fault}
use Rattle.schema.proofs.Scan.{passed_none, passed_more, passed_found, passed_all}
use Rattle.book.proofs.check.Goals as goal

pub loop-rule-init : goal.loop-rule-init
loop-rule-init c = λ fs. passed_none _ _ _

pub returns-then-faulty : goal.returns-then-faulty
unfolding rule_fault
returns-then-faulty c = λ fs. rw (passed_found _ _ _ (c.loop-rule.invariant fs) c.loop-rule-test.true (sym (c.faulty.ensures fs _) ∙ c.if-faulty.true))

pub loop-rule-preserved : goal.loop-rule-preserved
loop-rule-preserved c = λ fs. passed_more _ _ _ (c.loop-rule.invariant fs) c.loop-rule-test.true (sym (c.faulty.ensures fs _) ∙ c.if-faulty.false)

pub returns : goal.returns
unfolding rule_fault
returns c = λ fs. rw (passed_all _ _ _ (c.loop-rule.invariant fs) c.loop-rule-test.false)
