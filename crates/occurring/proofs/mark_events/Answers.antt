-- `occurring::mark_events` meets its contract. The invariant: what the events below this one count for is marked. The measure is the events left.
use mathlib.Core.Path.{◌≡◌, subst, ◌∙◌}
use native.Mathlib.Numerals.{add-one}
use native.Mathlib.Omega.{arith}
use Rattle.occurring.proofs.Batches.{CountedTo, one_counted, all_counted}
use Rattle.occurring.proofs.mark_events.Goals as goal

pub loop-i-preserved : goal.loop-i-preserved
loop-i-preserved c =
    let a = c.args in (
      omega (arith, c.loop-i-test.true),
      c.put_event.auto.marks ∙ c.loop-i.invariant.1,
      rw add-one (one_counted a.n.types a.types.now a.n.objects a.objects.now a.events.now a.met.now c.loop-i.i c.loop-i.invariant.2 c.put_event.ensures),
    )

pub returns : goal.returns
returns c =
    let a = c.args in
    let last : c.loop-i.i ≡ a.n.events = omega (arith, c.loop-i.invariant.0, c.loop-i-test.false) in
    all_counted a.n a.types.now a.objects.now a.events.now a.met.now (subst (CountedTo _ _ _ _ _ _ _ _) last c.loop-i.invariant.2)
