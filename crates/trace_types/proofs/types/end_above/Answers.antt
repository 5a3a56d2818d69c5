-- `trace_types::types::end_above` meets its contract.
use mathlib.Core.Path.{sym, ap, ◌∙◌}
use Rattle.meaning.specs.Schema.{under}
use Rattle.tables.specs.Columns.{types_of}
use Rattle.schema.proofs.Founds.{found_none, found_some}
use Rattle.register.proofs.Searches.{under_found, under_missing}
use Rattle.trace_types.proofs.Climbing.{no_truths, truths_as}
use Rattle.trace_types.proofs.types.end_above.Goals as goal

pub returns-in-Some : goal.returns-in-Some
returns-in-Some c =
    let a = c.args in
    let types = types_of a.type_count a.types.now in
    λ ls.
    truths_as c.above.ensures
    (λ t.
    ap (λ x. under types x t) c.type_of.ensures
    ∙ sym (under_found types a.object_count a.objects.now ls a.id t (found_some _ (sym c.in-Some.is ∙ c.object_row.ensures))))

pub returns-in-None : goal.returns-in-None
returns-in-None c =
    let a = c.args in
    λ ls.
    truths_as no_truths
    (λ t. sym (under_missing _ a.object_count a.objects.now ls a.id t (found_none _ (sym c.in-None.is ∙ c.object_row.ensures))))
