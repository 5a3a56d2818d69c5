-- `row_sets::put_lost` meets its contract. The loop's invariant: the marks only grow, and the row of each loss of the role that was passed is marked. The
-- measure is what is left of the losses.
use Prim.Native.Nat.{ℕ, ◌≤◌, ◌<◌}
use mathlib.Core.Path.{◌≡◌}
use mathlib.Core.Bool.{true}
use Rattle.trace_places.specs.Traces.{row_lost, loss_role, loss_count}
use Rattle.row_sets.specs.Sets.{sets_of, in_set, Grown}
use Rattle.row_sets.proofs.put_lost.Given as goal

abbrev pub invariant-loop-j : goal.invariant-loop-j
invariant-loop-j l =
    (Grown (sets_of l.initial.marks l.initial.sets) (sets_of l.marks l.sets))
    × (l.j ≤ l.count)
    × (l.count ≡ loss_count l.trace)
    × ((p : ℕ) → p < l.j → row_lost l.trace p < l.n.objects → loss_role l.trace p ≡ l.role → in_set (sets_of l.marks l.sets) l.v (row_lost l.trace p) ≡ true)
