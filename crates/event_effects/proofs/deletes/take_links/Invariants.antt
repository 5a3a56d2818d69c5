-- `event_effects::deletes::take_links` meets its contract. The invariant: what the pass has done before this row (`Passing`).
--
use Prim.Native.Nat.{◌-◌}
use Rattle.event_effects.proofs.Passes.{Passing}
use Rattle.event_effects.proofs.deletes.take_links.Given as goal

abbrev pub invariant-loop-row : goal.invariant-loop-row
invariant-loop-row l = Passing l.id l.held.links l.initial.links l.held.losses l.initial.losses l.links l.losses l.lost l.kept l.row
