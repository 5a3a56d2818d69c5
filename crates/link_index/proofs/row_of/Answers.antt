-- `link_index::row_of` meets its contract.
use mathlib.Core.Path.{sym, ap, ◌∙◌}
use Rattle.schema.proofs.Founds.{found_none, found_some}
use Rattle.register.specs.Tables.{object_place}
use Rattle.register.specs.Tables.{or_zero, row_at}
use Rattle.link_index.proofs.row_of.Goals as goal

pub returns-in-Some : goal.returns-in-Some
unfolding row_at
returns-in-Some c =
    let start = c.args in
    sym (ap or_zero (found_some (object_place start.object_count start.objects.now start.id) (sym c.in-Some.is ∙ c.quick_row.ensures)))

pub returns-in-None : goal.returns-in-None
unfolding row_at
returns-in-None c =
    let start = c.args in
    sym (ap or_zero (found_none (object_place start.object_count start.objects.now start.id) (sym c.in-None.is ∙ c.quick_row.ensures)))
