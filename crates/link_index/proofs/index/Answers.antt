-- `link_index::index` meets its contract. The invariant: the places from those of this row on have their slots. The measure is the row.
use Prim.Native.Nat.{ℕ, ◌-◌, ◌≤◌, ◌<◌}
use mathlib.Core.Path.{◌≡◌, ap, ◌∙◌}
use native.Mathlib.Nat.{le_refl}
use native.Mathlib.Omega.{arith}
use Rattle.meaning.specs.Register.{Link}
use Rattle.tables.specs.Columns.{link_row}
use Rattle.register.specs.Tables.{row_at}
use Rattle.register.proofs.Rows.{row_few}
use Rattle.link_index.proofs.Laid.{slotted_none, slotted_link}
use Rattle.link_index.proofs.index.Goals as goal
use Rattle.link_index.proofs.index.Lts as lts
use Rattle.link_index.proofs.index.Reads as reads
use Rattle.link_index.proofs.index.Tie as tie

-- ---- a turn's link, once its parts are read
abbrev Read : Type 0
Read = lts.After-relationship_of tie.the-claims reads.Pre reads.Post goal.the-invariant-loop-row goal.the-decreases-loop-row

abbrev at_source : Read → lts.After-row_of tie.the-claims reads.Pre reads.Post goal.the-invariant-loop-row goal.the-decreases-loop-row
at_source c = c.before.before.before.before

abbrev at-loop : Read → lts.At-loop tie.the-claims reads.Pre reads.Post goal.the-invariant-loop-row goal.the-decreases-loop-row
at-loop c = (at_source c).before.before.before.before

abbrev start : Read → lts.Start tie.the-claims reads.Pre reads.Post goal.the-invariant-loop-row goal.the-decreases-loop-row
start c = (at-loop c).before.before.before.before.before

abbrev row : Read → ℕ
row c = (at-loop c).loop-row.row

abbrev link : Read → Link
link c = link_row (start c).args.links.now (row c - 1)

abbrev row_at_lem : Read → ℕ → ℕ
row_at_lem c = row_at (start c).args.object_count (start c).args.objects.now

left : (c : Read) → 0 < row c
left c = (at_source c).loop-row-test.true

within : (c : Read) → row c ≤ (start c).args.link_count
within c = (at-loop c).loop-row.invariant.0

source_is : (c : Read) → (at_source c).row_of-source.result ≡ row_at_lem c (link c).source
source_is c = (at_source c).row_of-source.ensures ∙ ap (row_at_lem c) (at_source c).source_of.ensures

target_is : (c : Read) → c.row_of-target.result ≡ row_at_lem c (link c).target
target_is c = c.row_of-target.ensures ∙ ap (row_at_lem c) c.target_of.ensures

related : (c : Read) → c.relationship_of-relationship.result < 32
related c = omega (arith, (start c).requires.2.related (row c - 1) (omega (arith, left c, within c)), c.relationship_of-relationship.ensures)

row_below : (c : Read) (id : ℕ) → row_at_lem c id < 1024
row_below c id = row_few (start c).args.object_count (start c).args.objects.now id (start c).requires.2.few

pub loop-row-init : goal.loop-row-init
loop-row-init c =
    (le_refl c.args.link_count, slotted_none c.requires.2 c.args.index.now c.requires.3)

pub lay_link-requires : goal.lay_link-requires
lay_link-requires c =
    let few = (start c.before.before).requires.2.links_few in
    let source = source_is c.before.before in
    let target = target_is c.before.before in (
      omega arith,
      omega (arith, left c.before.before, within c.before.before),
      related c.before.before,
      omega (arith, row_below c.before.before (link c.before.before).source),
      omega (arith, row_below c.before.before (link c.before.before).target),
    )

pub loop-row-preserved : goal.loop-row-preserved
loop-row-preserved c = (
  omega (arith, within c.before.before.before),
  slotted_link (start c.before.before.before).requires.2 (at-loop c.before.before.before).loop-row.index (omega arith) (row c.before.before.before) (left c.before.before.before) (within c.before.before.before)
      c.relationship_of-relationship.ensures (source_is c.before.before.before) (target_is c.before.before.before) c.lay_link.ensures (at-loop c.before.before.before).loop-row.invariant.1,
)
