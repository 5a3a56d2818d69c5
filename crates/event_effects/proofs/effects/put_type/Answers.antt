-- `event_effects::effects::put_type` meets its contract: one word of the row that the search finds is changed.
use mathlib.Core.Path.{sym, subst, ◌∙◌}
use Rattle.meaning.specs.Events.{special}
use Rattle.schema.proofs.Founds.{found_some}
use Rattle.event_effects.specs.Effects.{ObjectsApplied}
use Rattle.event_effects.proofs.Applied.{type_put}
use Rattle.event_effects.proofs.effects.put_type.Goals as goal

pub returns-in-Some : goal.returns-in-Some
returns-in-Some c =
    let start = c.before in
    let x = start.args in
    λ S.
    subst (λ u. ObjectsApplied S (special x.id x.t) x.count x.objects.now x.count u) (sym c.put_word.ensures)
    (type_put S x.count x.objects.now x.id start.requires _ (found_some _ (sym c.in-Some.is ∙ c.object_row.ensures)) x.t)
