-- `row_sets::put_lost` meets its contract. The loop's invariant: the marks only grow, and the row of each loss of the role that was passed is marked. The
-- measure is what is left of the losses.
use native.Mathlib.Omega.{arith}
use Rattle.row_sets.specs.Sets.{sets_of, in_set}
use Rattle.questions.proofs.Losses.{lost_covers}
use Rattle.row_sets.proofs.put_lost.Goals as goal

pub returns : goal.returns
returns c =
    let inv = c.loop-j.invariant in
    let test = c.loop-j-test.false in (
      inv.0,
      λ k traced. lost_covers traced c.args.role (in_set (sets_of c.loop-j.marks c.loop-j.sets) c.args.v) (λ j h. inv.3 j (omega (arith, inv.2))),
    )
