-- `trace_places::keep::keep` meets its contract. The invariant: what is kept of the events below this one stands.
use Rattle.trace_places.specs.Making.{Kept}
use Prim.Native.Nat.{◌-◌, ◌≤◌}
use Rattle.trace_places.proofs.keep.keep.Given as goal

abbrev pub invariant-loop-i : goal.invariant-loop-i
invariant-loop-i l = (l.i ≤ l.event_count) × Kept l.link_count l.links l.events l.met l.initial.trace l.trace l.i
