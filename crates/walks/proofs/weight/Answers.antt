-- `walks::weight` meets its contract.
use mir.Syntax.{w64}
use mir.ValLaws.{to_z-of_z}
use borrow.Author.Tests.{eq-eqb, ne_eqb}
use Rattle.walks.specs.Values.{weight_of}
use Rattle.walks.proofs.weight.Goals as goal

pub returns-then-code-eq16 : goal.returns-then-code-eq16
unfolding weight_of
returns-then-code-eq16 c = rw (eq-eqb _ _ c.if-code-eq16.true)

pub returns-else-code-eq16 : goal.returns-else-code-eq16
unfolding weight_of
returns-else-code-eq16 c = rw (ne_eqb _ _ c.if-code-eq16.false, to_z-of_z w64 c.cell_value.result (record { sfits = c.cell_value.type_inv })) c.cell_value.ensures
