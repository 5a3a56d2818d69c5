-- `schema::has_parent` meets its contract.
use mathlib.Core.Path.{ap, ◌∙◌}
use Rattle.std.specs.Prelude.{is_some}
use Rattle.meaning.specs.Schema.{parent_of, has_parent}
use Rattle.tables.specs.Columns.{types_of}
use Rattle.schema.proofs.Founds.{found_is_some}
use Rattle.schema.proofs.has_parent.Goals as goal

pub returns : goal.returns
unfolding has_parent
returns c =
    let x = c.args in
    c.is_some.ensures ∙ ap is_some c.parent_of.ensures ∙ found_is_some (parent_of (types_of x.type_count x.types.now) x.t)
