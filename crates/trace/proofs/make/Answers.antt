-- `trace::make` meets its contract.
use Prim.Native.Nat.{◌+◌, ◌*◌}
use mathlib.Core.Path.{◌∙◌}
use mathlib.Core.List.{[]}
use native.Mathlib.Omega.{arith}
use Rattle.trace.proofs.Tracing.{traced}
use Rattle.trace.proofs.make.Goals as goal

pub fill-requires-2 : goal.fill-requires-2
fill-requires-2 c =
    let can = c.requires in (
      can.objects_ascend,
      can.objects_few,
      can.losses_few,
      can.losses_low,
      λ row. (c.fill.ensures []).above (14626 + 2 * row) (omega arith) ∙ c.keep.ensures.above (14626 + 2 * row) (omega arith) ∙ c.place.ensures.no_loss row ∙ can.empty (14626 + 2 * row),
    )

pub returns : goal.returns
returns c =
    let a = c.args in
    traced a.n a.sheet.now.types.now a.sheet.now.objects.now a.sheet.now.links.now a.sheet.now.events.now a.met.now a.loss_count a.losses.now c.requires
    c.place.ensures c.keep.ensures c.fill.ensures c.fill-2.ensures.0 c.fill-2.ensures.1
