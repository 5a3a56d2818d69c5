-- `mark_words::write` meets its contract: what is written so far are the words of the marked places below the place.
use Prim.Native.Nat.{◌*◌, ◌-◌, ◌≤◌}
use lib.ListN.{length}
use Rattle.type_marks.specs.Marks.{places}
use Rattle.mark_words.specs.Places.{marked_below}
use Rattle.mark_words.proofs.Places.{Written}
use Rattle.mark_words.proofs.write.Given as goal

abbrev pub invariant-loop-place : goal.invariant-loop-place
invariant-loop-place l =
    (l.place ≤ places) × (3 * length (marked_below l.marks places) ≤ length l.initial.list) × Written l.marks l.initial.list l.place l.at l.list
