-- `row_sets::clear` meets its contract. The loop's invariant: the rows that were passed are out of the set.
use mathlib.Core.Bool.{Bool}
use mathlib.Core.List.{List}
use Rattle.row_sets.specs.Sets.{sets_of, Cleared}
use Rattle.row_sets.proofs.clear.Given as goal

abbrev pub invariant-loop-row : goal.invariant-loop-row
invariant-loop-row l = (marks : List Bool) → Cleared l.v l.row (sets_of marks l.initial.sets) (sets_of marks l.sets)
