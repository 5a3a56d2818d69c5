-- `going_back::image` meets its contract, by the laws of Images.
use Prim.Native.Nat.{ℕ, ◌*◌, ◌<◌}
use mathlib.Core.Path.{◌≡◌, sym, ap, subst, ◌∙◌}
use native.Mathlib.Omega.{arith}
use Rattle.meaning.specs.Limits.{max_relationships}
use Rattle.meaning.specs.Forms.{collection, Form, role}
use Rattle.tables.specs.Bodies.{BodyRow, as_collection, ending}
use Rattle.body_rows.specs.Marks.{body_of}
use Rattle.going_back.specs.Back.{base_of, turned}
use Rattle.row_sets.specs.Sets.{sets_of}
use Rattle.row_sets.proofs.Growth.{grown_none}
use Rattle.going_back.proofs.Images.{role_bound, all_covered, role_covered}
use Rattle.going_back.proofs.image.Goals as goal
use Rattle.going_back.proofs.image.Lts as lts
use Rattle.going_back.proofs.image.Reads as reads
use Rattle.going_back.proofs.image.Tie as tie

abbrev begin : lts.After-field tie.the-claims reads.Pre reads.Post → lts.Start tie.the-claims reads.Pre reads.Post
begin c = c.before.before.before.before.before.before

abbrev rows : lts.Start tie.the-claims reads.Pre reads.Post → ℕ → BodyRow
rows s = body_of s.args.bodies.now s.args.of.0

abbrev form : lts.Start tie.the-claims reads.Pre reads.Post → Form collection
form s = as_collection (ending (rows s) s.args.of.1).form

pub base_row-row-requires : goal.base_row-row-requires
base_row-row-requires c =
    let ready = c.requires.0.2 in
    (record { few = ready.few; right = ready.right }, ready.read)

pub has_some-requires : goal.has_some-requires
has_some-requires c = let pre = c.requires in (pre.1, pre.0.2.indexed.indexable.few, pre.2)

pub returns-then-field-eq-ALL : goal.returns-then-field-eq-ALL
returns-then-field-eq-ALL c =
    let base = c.base_row-row.ensures.when_all (sym c.field.ensures ∙ c.if-field-eq-ALL.true) in (
      grown_none _,
      λ k end set inside.
          all_covered c.args.n.objects c.args.objects.now c.args.n.links c.args.links.now c.requires.0.2.steady k end (form c.before.before.before.before.before.before.before.before.before) set c.args.of.2 (sets_of c.args.marks.now c.args.sets.now) inside base _
          c.has_some.ensures,
    )

-- the collection below the selects is a role of a variable in scope
role_is : (c : lts.Else1 tie.the-claims reads.Pre reads.Post) → let row = c.base_row-row.result in base_of (form (begin c.before)) ≡ role (rows (begin c.before) row).x (rows (begin c.before) row).y
role_is c = c.base_row-row.ensures.when_role (λ q. c.if-field-eq-ALL.false (c.field.ensures ∙ q))

bound : (c : lts.Else1 tie.the-claims reads.Pre reads.Post) → let s = begin c.before in let r = rows s c.base_row-row.result in (r.x < s.args.of.2) × (r.y < 2 * max_relationships)
bound c = let s = begin c.before in role_bound s.args.of.2 (form s) s.requires.0.2.in_scope (role_is c)

pub turned-back-requires : goal.turned-back-requires
turned-back-requires c = subst (λ k. k < 64) (sym c.field-role.ensures) (bound c.before.before.before).1

pub put_back-requires : goal.put_back-requires
put_back-requires c =
    let ready = c.requires.0.2 in
    let low = bound c.before.before.before.before.before.before in
    (ready.indexed, ready.steady, omega (arith, c.turned-back.ensures.1, c.field-role.ensures), omega (arith, c.field-v.ensures, c.requires.1), c.requires.2, c.requires.1)

pub returns : goal.returns
returns c = (
  c.put_back.ensures.0,
  λ k end set inside.
      role_covered c.args.n.objects c.args.objects.now c.args.n.links c.args.links.now c.requires.0.2.steady k end (form c.before.before.before.before.before.before.before.before.before.before.before.before.before.before.before.before) set c.args.of.2 (sets_of c.args.marks.now c.args.sets.now) inside (role_is c.before.before.before.before.before.before.before.before.before) c.field-v.ensures (c.turned-back.ensures.0 ∙ ap turned c.field-role.ensures) _
      c.put_back.ensures.1,
)
