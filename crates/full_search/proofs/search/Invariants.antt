-- `full_search::search` meets its contract. The invariants: no broken pair stands before the rule, or before the row of the rule.
use Prim.Native.Nat.{◌-◌}
use mathlib.Core.Path.{◌≡◌}
use borrow.Author.Rules.{rules}
use mathlib.Core.List.{[]}
use Rattle.tables.specs.Layouts.{register_sheet}
use Rattle.tables.specs.declared.Answer.TheVariants.{Accepted}
use Rattle.full_search.proofs.Pairs.{Searching, Within}
use Rattle.full_search.proofs.search.Given as goal

abbrev pub invariant-loop-row : goal.invariant-loop-row
invariant-loop-row l =
    (l.answer ≡ Accepted) × Within l.n (register_sheet l.sheet) l.rule l.row

abbrev pub decreases-loop-row : goal.decreases-loop-row
decreases-loop-row l = l.n.objects - l.row

abbrev pub invariant-search : goal.invariant-search
invariant-search l =
    (l.answer ≡ Accepted) × Searching l.n (register_sheet l.sheet) l.rule
