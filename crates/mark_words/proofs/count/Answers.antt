-- `mark_words::count` meets its contract.
use mathlib.Core.Path.{ap}
use mathlib.Core.List.{[], ◌∷◌}
use native.Mathlib.Omega.{arith}
use lib.ListN.{length, length-append}
use Rattle.mark_words.specs.Places.{marked_below}
use Rattle.mark_words.proofs.Places.{below_marked, below_unmarked, below_few}
use Rattle.mark_words.proofs.count.Goals.{else-marks-place, then-marks-place}
use Rattle.mark_words.proofs.count.Goals as goal

pub loop-place-init : goal.loop-place-init
unfolding marked_below
loop-place-init c = omega arith

pub overflow_add-n : goal.overflow_add-n
overflow_add-n c = omega (arith, below_few c.args.marks.now c.loop-place.place)

pub loop-place-preserved : goal.loop-place-preserved
loop-place-preserved c =
    let marks = c.args.marks.now in
    let place = c.loop-place.place in (
      omega arith,
      elim c.if-marks-place.branch [ then-marks-place w ↦ omega (arith, ap length (below_marked marks place w.if-marks-place.true), length-append (marked_below marks place) (place ∷ [])) | else-marks-place w ↦ omega (arith, ap length (below_unmarked marks place w.if-marks-place.false)) ],
    )
