-- `trace_places::lost::fill` meets its contract. The invariant: the losses from this one on are put.
use Prim.Native.Nat.{◌≤◌}
use Rattle.trace_places.specs.Making.{LossesPut}
use Rattle.trace_places.proofs.lost.fill.Given as goal

abbrev pub invariant-loop-j : goal.invariant-loop-j
invariant-loop-j l = (l.j ≤ l.count) × LossesPut l.object_count l.objects l.losses l.count l.initial.trace l.trace l.j
