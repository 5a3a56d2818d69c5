-- `brackets::put_rows` meets its contract. The loop's invariant: the tokens from i on put the rows that are not done yet.
use Prim.Native.Nat.{ℕ, ◌-◌}
use lib.ListN.{length, drop}
use Rattle.text.specs.Bodies.{Written, rows_of}
use Rattle.brackets.specs.Whole.{WholeBody}
use Rattle.brackets.proofs.Whole.{Putting}
use Rattle.brackets.proofs.put_rows.Given as goal

abbrev pub invariant-loop-found : goal.invariant-loop-found
invariant-loop-found l =
    (t : ℕ) (w : Written) → WholeBody (drop l.at l.line) t w → Putting l.line l.initial.table l.i l.codes l.depth l.words l.column l.row l.table (rows_of w)

abbrev pub decreases-loop-found : goal.decreases-loop-found
decreases-loop-found l = length l.line - l.i
