-- `questions::named` meets its contract: the walk over the row's places stops at the first that answers. The loop's invariant is `Walk`; the
-- measure is what is left of the places.
use Prim.Native.Nat.{◌*◌, ◌/◌, ◌%◌}
use native.Mathlib.Omega.{arith}
use lib.Dec.{eqb}
use Rattle.tables.specs.Columns.{types_of, event_row}
use Rattle.trace_places.specs.Questions.{question_of, answers_at}
use Rattle.trace_places.specs.Traces.{itself, place_row, there_word, met_word}
use Rattle.questions.proofs.Asking.{left_of, Walk}
use Rattle.questions.proofs.named.Given as goal

abbrev pub invariant-loop-word : goal.invariant-loop-word
invariant-loop-word l =
    Walk itself 0 (λ p. omega arith) (place_row l.n.objects l.sheet.objects.now l.sheet.events.now) (2 * l.n.events) l.row
    (λ p. answers_at (types_of l.n.types l.sheet.types.now) (question_of l.question l.x) (event_row l.sheet.events.now (p / 2)) (p % 2) (met_word l.trace (p / 2)) (eqb (there_word l.trace (p / 2)) 1)) l.word

abbrev pub decreases-loop-word : goal.decreases-loop-word
decreases-loop-word l = left_of 512 l.word
