-- `going_back::base_row` meets its contract. The loop's invariant: the collection that ends with the row has the base asked for. The measure is the row.
use Prim.Native.Nat.{ℕ, suc, ◌-◌, ◌≤◌, ◌<◌}
use mathlib.Core.Path.{◌≡◌, sym, subst, ◌∙◌}
use native.Mathlib.Omega.{arith}
use lib.ListN.{get_or}
use Rattle.tables.specs.Bodies.{BodyRow}
use Rattle.body_rows.specs.Marks.{body_of}
use Rattle.going_back.proofs.Bases.{Bases, bases_none, bases_more, base_all, base_role}
use Rattle.going_back.proofs.base_row.Goals as goal
use Rattle.going_back.proofs.base_row.Lts as lts
use Rattle.going_back.proofs.base_row.Reads as reads
use Rattle.going_back.proofs.base_row.Tie as tie

abbrev rows : lts.Start tie.the-claims reads.Pre reads.Post goal.the-invariant-loop-at goal.the-decreases-loop-at → ℕ → BodyRow
rows s = body_of s.args.bodies.now s.args.of.0

first : (s : lts.Start tie.the-claims reads.Pre reads.Post goal.the-invariant-loop-at goal.the-decreases-loop-at) → (0 < s.args.of.1) × Bases (rows s) s.args.of.1 (s.args.of.1 - 1)
first s = bases_none (rows s) s.args.of.1 s.requires.1

whole : (s : lts.Start tie.the-claims reads.Pre reads.Post goal.the-invariant-loop-at goal.the-decreases-loop-at) → suc (s.args.of.1 - 1) ≡ s.args.of.1
whole s = let h = (first s).0 in omega arith

abbrev begin : lts.At-loop tie.the-claims reads.Pre reads.Post goal.the-invariant-loop-at goal.the-decreases-loop-at → lts.Start tie.the-claims reads.Pre reads.Post goal.the-invariant-loop-at goal.the-decreases-loop-at
begin c = c.before.before.before

inside : (c : lts.At-loop tie.the-claims reads.Pre reads.Post goal.the-invariant-loop-at goal.the-decreases-loop-at) → c.loop-at.row < 64
inside c = let s = begin c in let h = c.loop-at.invariant.below in omega (arith, whole s, s.requires.0.few)

pub overflow_sub-row : goal.overflow_sub-row
overflow_sub-row c = (first c.before.before.before).0

pub loop-at-init : goal.loop-at-init
loop-at-init c = subst (λ e. Bases (rows c.before.before.before) e (c.args.of.1 - 1)) (sym (whole c.before.before.before)) (first c.before.before.before).1

pub overflow_cast-at : goal.overflow_cast-at
overflow_cast-at c = let h = inside c.before.before.before in omega arith

pub offset_bounds-spans-at : goal.offset_bounds-spans-at
offset_bounds-spans-at c = let h = inside c.before.before.before in omega arith

pub bounds-spans-at : goal.bounds-spans-at
bounds-spans-at c = let h = inside c.before.before.before.before in omega arith

-- from a select to its first part
step : (c : lts.After-row tie.the-claims reads.Pre reads.Post goal.the-invariant-loop-at goal.the-decreases-loop-at)
    → let s = begin c.before.before.before.before in
    let m = get_or s.args.spans.now c.loop-at.row 0 in
    (0 < m) × (m ≤ c.loop-at.row) × Bases (rows s) (suc (s.args.of.1 - 1)) (m - 1)
step c =
    let s = begin c.before.before.before.before in
    let h = c.loop-at.invariant.below in
    bases_more c.loop-at.invariant (sym c.field.ensures ∙ c.loop-at-test.true) (get_or s.args.spans.now c.loop-at.row 0) (s.requires.0.right c.loop-at.row (omega (arith, whole s)))

pub overflow_sub-row-in-loop-at : goal.overflow_sub-row-in-loop-at
overflow_sub-row-in-loop-at c = (step c.before).0

pub loop-at-smaller : goal.loop-at-smaller
loop-at-smaller c = let h = step c.before in omega arith

pub loop-at-preserved : goal.loop-at-preserved
loop-at-preserved c = (step c.before).2

pub returns : goal.returns
returns c =
    let k = subst (λ e. Bases (rows c.before.before.before.before.before.before) e c.loop-at.row) (whole c.before.before.before.before.before.before) c.loop-at.invariant in
    record { below = k.below; when_all = base_all k; when_role = base_role k (λ q. c.loop-at-test.false (c.field.ensures ∙ q)) }
