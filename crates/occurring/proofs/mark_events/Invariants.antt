-- `occurring::mark_events` meets its contract. The invariant: what the events below this one count for is marked.
use Prim.Native.Nat.{◌-◌, ◌≤◌}
use mathlib.Core.Path.{◌≡◌}
use lib.ListN.{length}
use Rattle.occurring.proofs.Batches.{CountedTo}
use Rattle.occurring.proofs.mark_events.Given as goal

abbrev pub invariant-loop-i : goal.invariant-loop-i
invariant-loop-i l =
    (l.i ≤ l.count) × (length l.marks ≡ length l.initial.marks) × CountedTo l.n.types l.types l.n.objects l.objects l.events l.met l.initial.marks l.marks l.i
