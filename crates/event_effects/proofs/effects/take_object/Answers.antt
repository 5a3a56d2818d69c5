-- `event_effects::effects::take_object` meets its contract: the row that the search finds is taken out.
use Prim.Native.Nat.{◌-◌}
use mathlib.Core.Path.{sym, subst, ◌∙◌}
use native.Mathlib.Omega.{arith}
use Rattle.meaning.specs.Events.{delete}
use Rattle.schema.proofs.Founds.{found_some}
use Rattle.event_effects.specs.Effects.{ObjectsApplied}
use Rattle.event_effects.proofs.Applied.{object_found, object_taken_out}
use Rattle.event_effects.proofs.effects.take_object.Goals as goal

pub returns-in-Some : goal.returns-in-Some
returns-in-Some c =
    let x = c.args in
    λ S.
    subst (λ u. ObjectsApplied S (delete x.id) x.count x.objects.now (x.count - 1) u) (sym c.close_gap.ensures)
    (object_taken_out S x.count x.objects.now x.id c.requires _ (found_some _ (sym c.in-Some.is ∙ c.object_row.ensures)) (x.count - 1)
    (omega (arith, (object_found x.count x.objects.now x.id (found_some _ (sym c.in-Some.is ∙ c.object_row.ensures))).0)))
