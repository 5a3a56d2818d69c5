-- `row_sets::put_named` meets its contract. The loop's invariant: the marks only grow, and the row of each place that was passed and answers is
-- marked.
use native.Mathlib.Omega.{arith}
use Rattle.trace_places.specs.Questions.{question_of}
use Rattle.row_sets.specs.Sets.{sets_of, in_set}
use Rattle.questions.proofs.Asking.{covers}
use Rattle.row_sets.proofs.put_named.Goals as goal

pub returns : goal.returns
returns c =
    let inv = c.loop-place.invariant in
    let test = c.loop-place-test.false in (
      inv.0,
      λ k traced. covers traced (question_of c.args.question c.args.x) (in_set (sets_of c.loop-place.marks c.loop-place.sets) c.args.v) (λ p h. inv.2 p (omega arith)),
    )
