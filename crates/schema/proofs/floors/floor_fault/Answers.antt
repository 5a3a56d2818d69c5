-- `schema::floors::floor_fault` meets its contract. The invariant: the floors before the row are passed. The measure is what is left of them.
use mathlib.Core.Path.{sym, ◌∙◌}
use Rattle.meaning.specs.Schema.{floor_fault}
use Rattle.schema.proofs.Scan.{passed_none, passed_more, passed_found, passed_all}
use Rattle.schema.proofs.floors.floor_fault.Goals as goal

pub loop-row-init : goal.loop-row-init
loop-row-init c = passed_none _ _ _

pub returns-then-faulty_floor : goal.returns-then-faulty_floor
unfolding floor_fault
returns-then-faulty_floor c = λ rs. rw (passed_found _ _ _ c.loop-row.invariant c.loop-row-test.true (sym c.faulty_floor.ensures ∙ c.if-faulty_floor.true))

pub loop-row-preserved : goal.loop-row-preserved
loop-row-preserved c = passed_more _ _ _ c.loop-row.invariant c.loop-row-test.true (sym c.faulty_floor.ensures ∙ c.if-faulty_floor.false)

pub returns : goal.returns
unfolding floor_fault
returns c = λ rs. rw (passed_all _ _ _ c.loop-row.invariant c.loop-row-test.false)
