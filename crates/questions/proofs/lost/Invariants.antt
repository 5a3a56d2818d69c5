-- `questions::lost` meets its contract: the walk over the row's losses stops at the first of the role. The loop's invariant is `Walk`; the measure is
-- what is left of the losses.
use Prim.Native.Nat.{ℕ, ◌+◌}
use mathlib.Core.Path.{◌≡◌}
use native.Mathlib.Omega.{arith}
use lib.Dec.{eqb}
use Rattle.trace_places.specs.Traces.{row_lost, loss_role, loss_count, loss_slot}
use Rattle.questions.proofs.Asking.{left_of, Walk}
use Rattle.questions.proofs.lost.Given as goal

pub slot_is : (p : ℕ) → loss_slot p ≡ 1568 + p
slot_is p = omega arith

abbrev pub invariant-loop-word : goal.invariant-loop-word
invariant-loop-word l =
    Walk loss_slot 1568 slot_is (row_lost l.trace) (loss_count l.trace) l.row (λ j. eqb (loss_role l.trace j) l.role) l.word

abbrev pub decreases-loop-word : goal.decreases-loop-word
decreases-loop-word l = left_of 5920 l.word
