-- `pair_list::search` meets its contract. The invariants: no broken pair stands before those of the rule, or before that of the row, which is marked.
use Prim.Native.Nat.{◌-◌, ◌<◌}
use mathlib.Core.Path.{◌≡◌}
use mathlib.Core.Bool.{true}
use mathlib.Core.List.{[]}
use Rattle.tables.specs.Layouts.{register_sheet}
use Rattle.tables.specs.declared.Answer.TheVariants.{Accepted}
use Rattle.pair_marks.specs.Marks.{marked}
use Rattle.pair_list.specs.Pairs.{marked_pairs}
use Rattle.pair_list.proofs.Left.{from_rule, from_row}
use Rattle.pair_list.proofs.Found.{Searching}
use Rattle.pair_list.proofs.search.Given as goal

abbrev pub invariant-loop-row : goal.invariant-loop-row
invariant-loop-row l =
    (l.answer ≡ Accepted) × (l.row < 1024 → marked l.marks l.rule l.row ≡ true)
    × Searching l.n (register_sheet l.sheet) (marked_pairs l.n l.sheet.objects.now l.marks) (from_row l.n l.sheet.objects.now l.marks l.rule l.row)

abbrev pub decreases-loop-row : goal.decreases-loop-row
decreases-loop-row l = l.n.objects - l.row

abbrev pub invariant-search : goal.invariant-search
invariant-search l =
    (l.answer ≡ Accepted)
    × Searching l.n (register_sheet l.sheet) (marked_pairs l.n l.sheet.objects.now l.marks) (from_rule l.n l.sheet.objects.now l.marks l.rule)

abbrev pub decreases-search : goal.decreases-search
decreases-search l = l.n.rules - l.rule
