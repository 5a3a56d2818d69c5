-- `ocl::begin` meets its contract: along a role at the head of its chain, over all objects at the first row, and over a select where its
-- collection begins.
use Prim.Native.Nat.{◌<◌}
use mathlib.Core.Path.{sym, ap, subst, ◌∙◌}
use native.Mathlib.Omega.{arith}
use lib.ListN.{get_or}
use Rattle.ocl.proofs.Parts.{positive, shallow, role_scope, is_select, select_parts}
use Rattle.ocl.proofs.Answers.{role_began, all_began, select_began}
use Rattle.ocl.proofs.+begin.Goals as goal

pub overflow_sub-row : goal.overflow_sub-row
overflow_sub-row t c = positive c.requires

pub variable-object-requires : goal.variable-object-requires
variable-object-requires t c =
    let v = (role_scope c.requires (sym c.field-code.ensures ∙ c.if-code-eq20.true)).0 in
    let d = shallow c.requires in
    let x = c.field.ensures in
    omega arith

pub first_slot-requires : goal.first_slot-requires
first_slot-requires t c =
    let k = role_scope c.requires (sym c.field-code.ensures ∙ c.if-code-eq20.true) in
    let near : c.variable-object.result < c.args.n.objects =
    subst (λ v. v < c.args.n.objects) (sym (c.variable-object.ensures ∙ ap (λ j. get_or c.args.vs.now j 0) c.field.ensures)) (c.requires.there _ k.0) in
    (omega (arith, k.1, c.field-then-code-eq20.ensures), omega (arith, c.requires.indexed.indexable.few))

pub returns-then-code-eq20 : goal.returns-then-code-eq20
returns-then-code-eq20 t c = role_began c.requires (sym c.field-code.ensures ∙ c.if-code-eq20.true) c.field.ensures c.field-then-code-eq20.ensures c.variable-object.ensures c.first_slot.ensures

pub returns-then-code-eq21 : goal.returns-then-code-eq21
returns-then-code-eq21 t c = all_began c.requires (sym c.field-code.ensures ∙ c.if-code-eq21.true)

pub begin-requires : goal.begin-requires
begin-requires t c =
    let f = (select_parts c.requires (is_select c.requires c.field-code.ensures c.if-code-eq20.false c.if-code-eq21.false)).first c.start_of-start.ensures in
    (omega (arith, f.0, c.decreases), f.1)

pub returns : goal.returns
returns t c = select_began c.requires c.start_of-start.ensures (is_select c.requires c.field-code.ensures c.if-code-eq20.false c.if-code-eq21.false) c.begin.ensures
