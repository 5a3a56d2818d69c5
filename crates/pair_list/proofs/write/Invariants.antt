-- `pair_list::write` meets its contract: what is written so far are the words of the pairs before those of the rule, and in a rule's turn, of whatever list
-- was lent, those before that of the row, which is marked.
use Prim.Native.Nat.{ℕ, ◌-◌, ◌*◌, ◌≤◌, ◌<◌}
use mathlib.Core.Path.{◌≡◌}
use mathlib.Core.Bool.{true}
use mathlib.Core.List.{List}
use lib.ListN.{length}
use Rattle.pair_marks.specs.Marks.{marked}
use Rattle.pair_list.specs.Pairs.{marked_pairs}
use Rattle.pair_list.proofs.Left.{from_rule, from_row}
use Rattle.pair_list.proofs.Words.{Written}
use borrow.Author.Rules.{rules}
use Rattle.pair_list.proofs.write.Given as goal

abbrev pub invariant-loop-row : goal.invariant-loop-row
invariant-loop-row l =
    (l.row < 1024 → marked l.marks l.rule l.row ≡ true)
    × ((lent : List ℕ) → Written lent (marked_pairs l.n l.objects l.marks) (from_row l.n l.objects l.marks l.rule l.initial.row) l.initial.at l.initial.list
    → 2 * length (marked_pairs l.n l.objects l.marks) ≤ length lent → Written lent (marked_pairs l.n l.objects l.marks) (from_row l.n l.objects l.marks l.rule l.row) l.at l.list)

abbrev pub decreases-loop-row : goal.decreases-loop-row
decreases-loop-row l = l.n.objects - l.row

abbrev pub invariant-loop-rule : goal.invariant-loop-rule
invariant-loop-rule l = Written l.initial.list (marked_pairs l.n l.objects l.marks) (from_rule l.n l.objects l.marks l.rule) l.at l.list

abbrev pub decreases-loop-rule : goal.decreases-loop-rule
decreases-loop-rule l = l.n.rules - l.rule
