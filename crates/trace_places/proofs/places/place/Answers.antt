-- `trace_places::places::place` meets its contract. The invariant: the places from those of this event on are put. The measure is the event.
use Prim.Native.Nat.{suc, ◌-◌, ◌*◌}
use mathlib.Core.Path.{◌≡◌, sym, subst}
use native.Mathlib.Nat.{le_refl}
use native.Mathlib.Omega.{arith}
use Rattle.trace_places.specs.Making.{Placed}
use Rattle.trace_places.proofs.Placing.{placed_none, placed_event_lem}
use Rattle.trace_places.proofs.places.place.Goals as goal

pub loop-i-init : goal.loop-i-init
loop-i-init c =
    let a = c.args in
    (le_refl a.event_count, placed_none a.object_count a.objects.now a.events.now c.requires.1 (2 * a.event_count) a.trace.now a.trace.now c.requires.3)

pub loop-i-preserved : goal.loop-i-preserved
loop-i-preserved c =
    let a = c.args in
    let i = c.loop-i.i - 1 in
    let up : c.loop-i.i ≡ suc i = omega (arith, c.loop-i-test.true) in
    let b = subst (λ k. Placed a.object_count a.objects.now a.events.now (2 * a.event_count) a.trace.now c.loop-i.trace (2 * k)) up c.loop-i.invariant.1 in (
      omega (arith, c.loop-i.invariant.0),
      subst (λ t. Placed a.object_count a.objects.now a.events.now (2 * a.event_count) a.trace.now t (2 * i)) (sym c.put_event.ensures)
          (placed_event_lem a.object_count a.objects.now a.events.now c.requires.1 (2 * a.event_count) a.trace.now c.loop-i.trace (omega arith) i (omega (arith, up, c.loop-i.invariant.0)) (omega (arith, c.requires.2)) b),
    )
