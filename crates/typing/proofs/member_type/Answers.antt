-- `typing::member_type` meets its contract. The loop's invariant: the collection that ends with the row has the members asked for.
-- The measure is the row.
use Prim.Native.Nat.{◌-◌, ◌≤◌, ◌<◌}
use mathlib.Core.Path.{sym, ap, ◌∙◌}
use native.Mathlib.Omega.{arith}
use lib.ListN.{get_or}
use Rattle.meaning.specs.Schema.{far_type}
use Rattle.tables.specs.Columns.{relationships_of}
use Rattle.body_rows.specs.Marks.{body_of}
use Rattle.typing.proofs.Types.{Members, members_none, members_more, members_all, members_role}
use Rattle.typing.proofs.member_type.Goals as goal
use Rattle.typing.proofs.member_type.Lts as lts
use Rattle.typing.proofs.member_type.Reads as reads
use Rattle.typing.proofs.member_type.Tie as tie

pub overflow_sub-row : goal.overflow_sub-row
overflow_sub-row c = let a = c.args in (members_none (body_of a.bodies.now a.at.rule) a.at.end c.requires.1).0

pub loop-index-init : goal.loop-index-init
loop-index-init c = let a = c.args in (members_none (body_of a.bodies.now a.at.rule) a.at.end c.requires.1).1

-- from a select to its first part
step : (c : lts.After-row tie.the-claims reads.Pre reads.Post goal.the-invariant-loop-index goal.the-decreases-loop-index)
    → let a = c.args in
    let row = c.loop-index.row in
    let m = get_or a.starts.now row 0 in
    (0 < m) × (m ≤ row) × Members (body_of a.bodies.now a.at.rule) a.at.end (m - 1)
step c =
    let a = c.args in
    let k = c.loop-index.invariant in
    let row = c.loop-index.row in
    let h : row ≤ a.at.end = let l = k.below in omega arith in
    members_more k (sym c.field.ensures ∙ c.loop-index-test.true) (get_or a.starts.now row 0) (c.requires.0.right row h)

pub overflow_sub-row-in-loop-index : goal.overflow_sub-row-in-loop-index
overflow_sub-row-in-loop-index c = (step c.before).0

pub loop-index-smaller : goal.loop-index-smaller
loop-index-smaller c = let h = step c.before in omega arith

pub loop-index-preserved : goal.loop-index-preserved
loop-index-preserved c = (step c.before).2

pub returns-then-field-eq-ALL : goal.returns-then-field-eq-ALL
returns-then-field-eq-ALL c =
    let a = c.args in
    c.field-x.ensures
    ∙ members_all c.loop-index.invariant (relationships_of a.at.relationships a.relationships.now) (sym c.field-2.ensures ∙ c.if-field-eq-ALL.true)

pub returns : goal.returns
returns c =
    let a = c.args in
    let relationships = relationships_of a.at.relationships a.relationships.now in
    c.far_type.ensures
    ∙ ap (far_type relationships) c.field-role.ensures
    ∙ members_role c.loop-index.invariant relationships
    (λ q. c.loop-index-test.false (c.field.ensures ∙ q)) (λ q. c.if-field-eq-ALL.false (c.field-2.ensures ∙ q))
