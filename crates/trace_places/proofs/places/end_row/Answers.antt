-- `trace_places::places::end_row` meets its contract.
use mathlib.Core.Path.{sym, ap, ◌∙◌}
use Rattle.schema.proofs.Founds.{found_none, found_some}
use Rattle.register.specs.Tables.{object_place}
use Rattle.trace_places.specs.Traces.{or_past}
use Rattle.trace_places.proofs.places.end_row.Goals as goal

pub returns-in-Some : goal.returns-in-Some
returns-in-Some c =
    let a = c.args in
    sym (ap or_past (found_some (object_place a.object_count a.objects.now a.id) (sym c.in-Some.is ∙ c.object_row.ensures)))

pub returns-in-None : goal.returns-in-None
returns-in-None c =
    let a = c.args in
    sym (ap or_past (found_none (object_place a.object_count a.objects.now a.id) (sym c.in-None.is ∙ c.object_row.ensures)))
