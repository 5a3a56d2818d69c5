-- `event_effects::effects::put_cell` meets its contract: one word of the row that the search finds is changed.
use mathlib.Core.Path.{sym, subst, ◌∙◌}
use Rattle.meaning.specs.Events.{set}
use Rattle.rows.specs.Rows.{signed}
use Rattle.schema.proofs.Founds.{found_some}
use Rattle.event_effects.specs.Effects.{ObjectsApplied}
use Rattle.event_effects.proofs.Applied.{cell_put}
use Rattle.event_effects.proofs.effects.put_cell.Goals as goal

pub returns-in-Some : goal.returns-in-Some
returns-in-Some c =
    let start = c.before in
    let x = start.args in
    λ S.
    subst (λ u. ObjectsApplied S (set x.id x.cell (signed x.word)) x.count x.objects.now x.count u) (sym c.put_word.ensures)
    (cell_put S x.count x.objects.now x.id start.requires.0 _ (found_some _ (sym c.in-Some.is ∙ c.object_row.ensures)) x.cell x.word start.requires.1)
