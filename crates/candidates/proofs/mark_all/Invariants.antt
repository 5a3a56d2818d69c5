-- `candidates::mark_all` meets its contract. The loop's invariant: the rows that were passed are marked.
use Prim.Native.Nat.{ℕ, ◌-◌, ◌≤◌, ◌<◌}
use mathlib.Core.Path.{◌≡◌}
use mathlib.Core.Bool.{true, false}
use lib.ListN.{length, get_or}
use Rattle.candidates.proofs.mark_all.Given as goal

abbrev pub invariant-loop-row : goal.invariant-loop-row
invariant-loop-row l =
    (l.row ≤ l.fn.n.objects) × (length l.marks ≡ 1024) × ((k : ℕ) → k < l.row → get_or l.marks k false ≡ true)
