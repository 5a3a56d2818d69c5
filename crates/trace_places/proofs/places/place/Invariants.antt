-- `trace_places::places::place` meets its contract. The invariant: the places from those of this event on are put.
use Prim.Native.Nat.{◌*◌, ◌≤◌}
use Rattle.trace_places.specs.Making.{Placed}
use Rattle.trace_places.proofs.places.place.Given as goal

abbrev pub invariant-loop-i : goal.invariant-loop-i
invariant-loop-i l = (l.i ≤ l.event_count) × Placed l.object_count l.objects l.events (2 * l.event_count) l.initial.trace l.trace (2 * l.i)
