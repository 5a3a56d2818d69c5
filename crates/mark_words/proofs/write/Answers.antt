-- `mark_words::write` meets its contract: what is written so far are the words of the marked places below the place.
use Prim.Native.Nat.{◌+◌, ◌-◌, ◌≤◌}
use mathlib.Core.Path.{◌≡◌, ap, ◌∙◌}
use mathlib.Core.Logic.{⊎_elim}
use native.Mathlib.Omega.{arith}
use lib.ListN.{length}
use Rattle.type_marks.specs.Marks.{places}
use Rattle.mark_words.specs.Places.{marked_below, place_words}
use Rattle.rows.specs.Rows.{in_front}
use Rattle.mark_words.proofs.Places.{written_none, written_marked, written_unmarked, room}
use Rattle.mark_words.proofs.write.Goals.{else-marks-place, then-marks-place}
use Rattle.mark_words.proofs.write.Goals as goal

pub loop-place-init : goal.loop-place-init
loop-place-init c = (omega arith, c.requires, written_none _ _)

pub put-requires : goal.put-requires
put-requires c =
    let room_left : c.loop-place.at + 3 ≤ length c.loop-place.list = let a = c.args in room a.marks.now a.list.now c.loop-place.invariant.2 places (omega arith) c.loop-place.invariant.1 c.if-marks-place.true in
    (omega arith, room_left)

pub overflow_add-at : goal.overflow_add-at
overflow_add-at c =
    let room_left : c.loop-place.at + 3 ≤ length c.loop-place.list = let a = c.args in room a.marks.now a.list.now c.loop-place.invariant.2 places (omega arith) c.loop-place.invariant.1 c.if-marks-place.true in
    omega (arith, c.well_formed.1.0.0, c.loop-place.invariant.2.long, room_left)

pub loop-place-preserved : goal.loop-place-preserved
loop-place-preserved c =
    let a = c.args in
    let inv = c.loop-place.invariant in (
      omega arith,
      inv.1,
      elim c.if-marks-place.branch [ then-marks-place w ↦ written_marked a.marks.now a.list.now inv.2 w.if-marks-place.true w.at-is (ap length w.list-is ∙ w.put.auto.list) (w.list-is ∙ w.put.ensures) | else-marks-place w ↦ written_unmarked a.marks.now a.list.now inv.2 w.if-marks-place.false w.at-is w.list-is ],
    )

pub shape_of-list : goal.shape_of-list
shape_of-list c = c.loop-place.invariant.2.long

pub returns : goal.returns
returns c =
    let a = c.args in
    let all : c.loop-place.place ≡ places = omega arith in
    c.loop-place.invariant.2.words ∙ ap (λ k. in_front (place_words (marked_below a.marks.now k)) a.list.now) all
