-- `type_marks::put_leaf` meets its contract.
use mathlib.Core.Path.{ap}
use mathlib.Core.Bool.{true, false}
use mathlib.Core.List.{List, [], ◌∷◌}
use native.Mathlib.Omega.{arith}
use lib.ListN.{take}
use borrow.Author.Tests.{eq-eqb, ne_eqb}
use Rattle.meaning.specs.Schema.{Floor, Schema}
use Rattle.meaning.specs.Reach.{Direction}
use Rattle.meaning.specs.EventList.{EventType, set_of, role_lists}
use Rattle.tables.specs.Columns.{schema_of}
use Rattle.type_marks.specs.Lists.{type_lists, leaf_lists}
use Rattle.type_marks.proofs.Marks.{none_listed, added_none, added_as, added_lists}
use Rattle.type_marks.proofs.put_leaf.Goals as goal
use Rattle.type_marks.proofs.put_leaf.Lts as lts
use Rattle.type_marks.proofs.put_leaf.Reads as reads
use Rattle.type_marks.proofs.put_leaf.Tie as tie

-- ---- places of the code
abbrev start : lts.After-slice_known tie.the-claims reads.Pre reads.Post → lts.Start tie.the-claims reads.Pre reads.Post
start c = c.before.before.before

abbrev schema : lts.Start tie.the-claims reads.Pre reads.Post → List Floor → Schema
schema s fs = schema_of s.args.at.types s.args.types.now fs s.args.at.relationships s.args.relationships.now

abbrev leaf : lts.Start tie.the-claims reads.Pre reads.Post → List Floor → Direction → List EventType
leaf s fs = leaf_lists (schema s fs) (take s.args.at.depth s.args.env.now) s.args.code s.args.x s.args.y

pub returns-then-code-eq-KIND : goal.returns-then-code-eq-KIND
unfolding leaf_lists
returns-then-code-eq-KIND c =
    let a = c.args in
    λ fs.
    added_lists a.set (type_lists (schema c.before.before.before.before.before.before.before.before.before fs) false a.y) (leaf c.before.before.before.before.before.before.before.before.before fs) (c.put_members.ensures fs (schema c.before.before.before.before.before.before.before.before.before fs).relationships) (λ d. rw (eq-eqb a.code 13 (omega arith)))

pub returns-then-code-eq-ALL : goal.returns-then-code-eq-ALL
unfolding leaf_lists
returns-then-code-eq-ALL c =
    let a = c.args in
    λ fs.
    added_lists a.set (type_lists (schema c.before.before.before.before.before.before.before.before.before.before fs) true a.x) (leaf c.before.before.before.before.before.before.before.before.before.before fs) (c.put_members-then-code-eq-ALL.ensures fs (schema c.before.before.before.before.before.before.before.before.before.before fs).relationships) (λ d. rw (ne_eqb a.code 13 (omega arith), eq-eqb a.code 21 (omega arith)))

pub returns-then-code-eq-ROLE : goal.returns-then-code-eq-ROLE
unfolding leaf_lists
returns-then-code-eq-ROLE c =
    let a = c.args in
    λ fs.
    added_lists a.set (role_lists (schema c.before.before.before.before.before.before.before.before.before.before.before fs) a.y) (leaf c.before.before.before.before.before.before.before.before.before.before.before fs) (c.put_role.ensures (schema c.before.before.before.before.before.before.before.before.before.before.before fs).types fs) (λ d. rw (ne_eqb a.code 13 (omega arith), ne_eqb a.code 21 (omega arith), eq-eqb a.code 20 (omega arith)))

pub returns-then-code-eq-CELL : goal.returns-then-code-eq-CELL
unfolding leaf_lists
returns-then-code-eq-CELL c =
    let a = c.args in
    λ fs.
    added_lists a.set (λ d. set_of c.variable_type.result a.y ∷ []) (leaf c.before.before.before.before.before.before.before.before.before.before.before.before.before fs) c.put_cell.ensures
    (λ d. rw (ne_eqb a.code 13 (omega arith), ne_eqb a.code 21 (omega arith), ne_eqb a.code 20 (omega arith), eq-eqb a.code 15 (omega arith)) (ap (λ t. set_of t a.y ∷ []) c.variable_type.ensures))

pub returns-else-code-eq-CELL : goal.returns-else-code-eq-CELL
unfolding leaf_lists
returns-else-code-eq-CELL c =
    let a = c.args in
    λ fs.
    added_lists a.set (λ d. []) (leaf c.before.before.before.before.before.before.before.before fs) (added_as (added_none _) (λ place h. none_listed a.set)) (λ d. rw (ne_eqb a.code 13 (omega arith), ne_eqb a.code 21 (omega arith), ne_eqb a.code 20 (omega arith), ne_eqb a.code 15 (omega arith)))
