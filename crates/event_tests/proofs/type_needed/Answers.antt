-- `event_tests::type_needed` meets its contract. The invariant: no link before the row needs the object out of the type. The measure is what is left of them.
use mathlib.Core.Path.{sym, ◌∙◌}
use Rattle.meaning.specs.Events.{type_needed}
use Rattle.schema.proofs.Scan.{missed_none, missed_more, missed_hit, missed_all}
use Rattle.event_tests.proofs.type_needed.Goals as goal

pub loop-row-init : goal.loop-row-init
loop-row-init c = λ fs. missed_none _ _ _

pub returns-then-needs_type : goal.returns-then-needs_type
unfolding type_needed
returns-then-needs_type c =
    λ fs os. sym (missed_hit _ _ _ (c.loop-row.invariant fs) c.loop-row-test.true (sym (c.needs_type.ensures fs) ∙ c.if-needs_type.true))

pub loop-row-preserved : goal.loop-row-preserved
loop-row-preserved c =
    λ fs. missed_more _ _ _ (c.loop-row.invariant fs) c.loop-row-test.true (sym (c.needs_type.ensures fs) ∙ c.if-needs_type.false)

pub returns : goal.returns
unfolding type_needed
returns c = λ fs os. sym (missed_all _ _ _ (c.loop-row.invariant fs) c.loop-row-test.false)
