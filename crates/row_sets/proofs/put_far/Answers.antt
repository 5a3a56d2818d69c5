-- `row_sets::put_far` meets its contract. The loop's invariant: the marks only grow, and each far row is marked or still to come. The measure is
-- what is left of the walk.
use Prim.Native.Nat.{suc, ◌+◌, ◌-◌, ◌<◌}
use mathlib.Core.Path.{◌≡◌, sym, subst}
use native.Mathlib.Omega.{arith}
use lib.ListN.{length, get_or}
use Rattle.meaning.specs.Lists.{Ascending}
use Rattle.meaning.specs.Register.{far_ends}
use Rattle.walks.specs.Site.{Site, register_at, id_in}
use Rattle.walks.proofs.Steps.{fewer_left}
use Rattle.row_sets.specs.Sets.{sets_of, in_set}
use Rattle.row_sets.proofs.Growth.{grown_none, grown_then}
use Rattle.row_sets.proofs.Fars.{left, far_starts, far_low, far_ends_lem, went, far_goes_on}
use Rattle.row_sets.proofs.put_far.Invariants.{walked}
use Rattle.row_sets.proofs.put_far.Goals as goal
use Rattle.row_sets.proofs.put_far.Lts as lts
use Rattle.row_sets.proofs.put_far.Reads as reads
use Rattle.row_sets.proofs.put_far.Tie as tie

abbrev Start : Type 0
Start = lts.Start tie.the-claims reads.Pre reads.Post goal.the-invariant-loop-word goal.the-decreases-loop-word

abbrev Turn : Type 0
Turn = lts.In-loop tie.the-claims reads.Pre reads.Post goal.the-invariant-loop-word goal.the-decreases-loop-word

abbrev begin : lts.At-loop tie.the-claims reads.Pre reads.Post goal.the-invariant-loop-word goal.the-decreases-loop-word → Start
begin c = c.before.before.before.before.before

abbrev site : Start → Site
site s = let a = s.args in walked a.n a.objects.now a.links.now a.index.now

up : (s : Start) → Ascending ◌<◌ (far_ends (register_at (site s)) s.args.role (id_in s.args.objects.now s.args.row))
up s = s.requires.1.far_ascend s.args.role (id_in s.args.objects.now s.args.row)

slot_is : (c : Turn) → suc (c.loop-word.word - 1) ≡ c.loop-word.word
slot_is c = let h = c.loop-word-test.true in omega arith

slot_low : (c : Turn) → c.loop-word.word - 1 < 8192
slot_low c =
    let s = begin c.before in
    let h = c.loop-word-test.true in
    omega (arith, far_low (site s) s.requires.0 s.args.role s.args.row s.requires.3 (up s) c.loop-word.invariant.1)

pub loop-word-init : goal.loop-word-init
loop-word-init c =
    (grown_none _, far_starts (site c.before.before.before.before.before) c.requires.0 c.args.role c.args.row c.requires.3 (up c.before.before.before.before.before) (in_set (sets_of c.args.marks.now c.args.sets.now) c.args.v) c.first_slot-word.ensures)

pub far_row-requires : goal.far_row-requires
far_row-requires c = slot_low c.before

pub next_slot-word-requires : goal.next_slot-word-requires
next_slot-word-requires c = slot_low c.before.before.before.before.before.before.before

pub loop-word-smaller : goal.loop-word-smaller
loop-word-smaller c =
    let slot = c.loop-word.word - 1 in
    let to = left (site c.before.before.before.before.before.before.before.before.before.before.before.before.before.before) c.args.role c.args.row in
    subst (λ k. length (to k) < length (to c.loop-word.word)) (sym c.next_slot-word.ensures)
    (subst (λ k. length (to (get_or c.args.index.now (8192 + slot) 0)) < length (to k)) (slot_is c.before.before.before.before.before.before.before.before)
    (fewer_left (went (site c.before.before.before.before.before.before.before.before.before.before.before.before.before.before) c.requires.0 c.args.role c.args.row c.requires.3 (up c.before.before.before.before.before.before.before.before.before.before.before.before.before.before) c.loop-word.invariant.1 slot (slot_is c.before.before.before.before.before.before.before.before))))

pub loop-word-preserved : goal.loop-word-preserved
loop-word-preserved c =
    let slot = c.loop-word.word - 1 in
    let walk = c.loop-word.invariant.1 in
    let put = c.mark.ensures in
    let step = went (site c.before.before.before.before.before.before.before.before.before.before.before.before.before.before) c.requires.0 c.args.role c.args.row c.requires.3 (up c.before.before.before.before.before.before.before.before.before.before.before.before.before.before) walk slot (slot_is c.before.before.before.before.before.before.before.before) in
    let far = c.far_row.ensures in (
      grown_then c.loop-word.invariant.0 put.0,
      far_goes_on (site c.before.before.before.before.before.before.before.before.before.before.before.before.before.before) c.requires.0 c.args.role c.args.row c.requires.3 (up c.before.before.before.before.before.before.before.before.before.before.before.before.before.before) walk slot (slot_is c.before.before.before.before.before.before.before.before) _ far c.next_slot-word.ensures
          (λ y e. put.0.kept c.args.v y e)
          (put.1 (subst (λ k. k < c.args.n.objects) (sym far) step.there)),
    )

pub returns : goal.returns
returns c =
    (c.loop-word.invariant.0, far_ends_lem (site c.before.before.before.before.before.before.before) c.requires.0 c.args.role c.args.row c.requires.3 (up c.before.before.before.before.before.before.before) c.loop-word.invariant.1 c.loop-word-test.false)
