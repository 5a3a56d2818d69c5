-- `event_effects::effects::put_higher_type` meets its contract: the type of the row that the search finds is changed, and its columns past the new type's cells are cleared.
use Prim.Native.Nat.{◌+◌}
use mathlib.Core.Path.{sym, ap, subst, ◌∙◌}
use Rattle.meaning.specs.Schema.{Schema}
use Rattle.meaning.specs.Events.{general}
use Rattle.rows.specs.Rows.{with_word, without_columns}
use Rattle.tables.specs.Columns.{types_of}
use Rattle.schema.proofs.Founds.{found_some}
use Rattle.event_effects.specs.Effects.{ObjectsApplied}
use Rattle.event_effects.proofs.Applied.{higher_type_put}
use Rattle.event_effects.proofs.effects.put_higher_type.Goals as goal

pub returns-in-Some : goal.returns-in-Some
returns-in-Some c =
    let start = c.before in
    let x = start.args in
    let row = c.in-Some.row in
    λ fs rs.
    let S : Schema = record { types = types_of x.type_count x.types.now; floors = fs; relationships = rs } in
    subst (λ u. ObjectsApplied S (general x.id x.t) x.count x.objects.now x.count u)
    (sym
    (c.clear_columns.ensures ∙ ap (λ u. without_columns u 10 row (2 + c.cells_of-cells.result)) c.put_word.ensures
    ∙ ap (λ k. without_columns (with_word x.objects.now 10 row 1 x.t) 10 row (2 + k)) c.cells_of-cells.ensures))
    (higher_type_put S x.count x.objects.now x.id start.requires.0 row (found_some _ (sym c.in-Some.is ∙ c.object_row.ensures)) x.t start.requires.1)
