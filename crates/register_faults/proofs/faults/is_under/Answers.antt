-- `register_faults::faults::is_under` meets its contract. The object is that of the row that the search finds.
use mathlib.Core.Path.{sym, ap, ◌∙◌}
use Rattle.meaning.specs.Schema.{under}
use Rattle.tables.specs.Columns.{types_of}
use Rattle.schema.proofs.Founds.{found_none, found_some}
use Rattle.register.proofs.Searches.{under_found, under_missing}
use Rattle.register_faults.proofs.faults.is_under.Goals as goal

pub returns-in-Some : goal.returns-in-Some
returns-in-Some c =
    let start = c.args in
    λ ls.
    c.under.ensures
    ∙ ap (λ x. under (types_of start.type_count start.types.now) x start.t) c.type_of.ensures
    ∙ sym
    (under_found _ start.object_count start.objects.now ls start.id start.t
    (found_some _ (sym c.in-Some.is ∙ c.quick_row.ensures)))

pub returns-in-None : goal.returns-in-None
returns-in-None c =
    let start = c.args in
    λ ls.
    sym
    (under_missing _ start.object_count start.objects.now ls start.id start.t
    (found_none _ (sym c.in-None.is ∙ c.quick_row.ensures)))
