-- `going_back::members` meets its contract.
use mathlib.Core.Path.{◌∙◌}
use native.Mathlib.Omega.{arith}
use Rattle.meaning.specs.Reach.{cell_moves}
use Rattle.reach.proofs.Leaves.{asked_set}
use Rattle.row_sets.proofs.Growth.{room_kept, grown_then, grown_below, cleared_below, below_then}
use Rattle.going_back.proofs.members.Goals as goal

pub clear-requires : goal.clear-requires
clear-requires c =
    let pre = c.requires in
    (pre.2, pre.3, pre.0.1.indexed.indexable.few, pre.4.inner)

pub put_answers-requires : goal.put_answers-requires
put_answers-requires c =
    (c.requires.1, omega arith, omega (arith, c.requires.3), room_kept (c.clear.ensures c.args.marks.now).long c.requires.4)

pub image-requires : goal.image-requires
image-requires c =
    let pre = c.requires in
    ((c.args.sheet.now.types.now, pre.0.0, pre.0.1), pre.3, room_kept c.put_answers.ensures.0.long (room_kept (c.clear.ensures c.args.marks.now).long pre.4))

pub returns : goal.returns
returns c = (
  below_then (cleared_below (c.clear.ensures c.args.marks.now)) (grown_below c.args.of.2 (grown_then c.put_answers.ensures.0 c.image.ensures.0)),
  λ k traced.
      c.image.ensures.1 k traced.seen.end_is (λ x. cell_moves k x c.args.cell) (λ row h t. c.put_answers.ensures.1 k traced row h (asked_set k _ c.args.cell ∙ t)),
)
