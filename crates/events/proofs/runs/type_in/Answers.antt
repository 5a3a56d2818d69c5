-- `events::runs::type_in` meets its contract.
use mathlib.Core.Path.{sym, ◌∙◌}
use Rattle.schema.proofs.Founds.{found_none, found_some}
use Rattle.events.proofs.MetTypes.{type_found, type_missing}
use Rattle.events.proofs.runs.type_in.Goals as goal

pub returns-in-Some : goal.returns-in-Some
returns-in-Some c =
    let x = c.args in
    λ ls.
    c.type_of.ensures
    ∙ sym (type_found x.count x.objects.now ls x.id (found_some _ (sym c.in-Some.is ∙ c.object_row.ensures)))

pub returns-in-None : goal.returns-in-None
returns-in-None c =
    let x = c.args in
    λ ls. sym (type_missing x.count x.objects.now ls x.id (found_none _ (sym c.in-None.is ∙ c.object_row.ensures)))
