-- `trace_places::lost::fill` meets its contract. The invariant: the losses from this one on are put. The measure is the loss.
use Prim.Native.Nat.{suc, ◌-◌, ◌<◌}
use mathlib.Core.Path.{◌≡◌, sym, ap, subst, ◌∙◌}
use mathlib.Core.Option.{some}
use native.Mathlib.Nat.{le_refl}
use native.Mathlib.Omega.{arith}
use Rattle.trace_places.specs.Traces.{row_named, loss_row}
use Rattle.trace_places.specs.Making.{loss_put, LossesPut}
use Rattle.trace_places.proofs.Losing.{row_low, put_none, put_more}
use Rattle.trace_places.proofs.lost.fill.Goals as goal

pub loop-j-init : goal.loop-j-init
loop-j-init c =
    let a = c.args in
    (le_refl a.count, put_none a.object_count a.objects.now a.losses.now c.requires.1 a.count a.trace.now c.requires.4)

pub put-requires : goal.put-requires
put-requires c =
    let row_is : let s = c in c.end_row.result ≡ loss_row s.args.object_count s.args.objects.now s.args.losses.now (c.loop-j.j - 1) = let s = c in c.end_row.ensures ∙ ap (λ id. row_named s.args.object_count s.args.objects.now (some id)) c.word-id.ensures in
    let a = c.args in
    let j = c.loop-j.j - 1 in
    let below : j < a.count = omega (arith, c.loop-j-test.true, c.loop-j.invariant.0) in (
      omega arith,
      omega (arith, c.requires.2),
      omega (arith, row_is, row_low a.object_count a.objects.now a.losses.now c.requires.1 a.count j),
      omega (arith, c.word-role.ensures, c.requires.3 j below),
    )

pub loop-j-preserved : goal.loop-j-preserved
loop-j-preserved c =
    let row_is : let s = c in c.end_row.result ≡ loss_row s.args.object_count s.args.objects.now s.args.losses.now (c.loop-j.j - 1) = let s = c in c.end_row.ensures ∙ ap (λ id. row_named s.args.object_count s.args.objects.now (some id)) c.word-id.ensures in
    let a = c.args in
    let j = c.loop-j.j - 1 in
    let up : c.loop-j.j ≡ suc j = omega (arith, c.loop-j-test.true) in
    let b = subst (LossesPut a.object_count a.objects.now a.losses.now a.count a.trace.now c.loop-j.trace) up c.loop-j.invariant.1 in (
      omega (arith, c.loop-j.invariant.0),
      subst (λ t. LossesPut a.object_count a.objects.now a.losses.now a.count a.trace.now t j)
          (sym (c.put.ensures ∙ (λ k. loss_put c.loop-j.trace j (row_is k) (c.word-role.ensures k))))
          (put_more a.object_count a.objects.now a.losses.now c.requires.1 a.count a.trace.now c.loop-j.trace (omega arith) j (omega (arith, up, c.loop-j.invariant.0)) c.requires.2 b),
    )
