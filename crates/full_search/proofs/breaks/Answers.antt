-- `full_search::breaks` meets its contract.
use mathlib.Core.Path.{sym, ap, ◌∙◌}
use mathlib.Core.Bool.{not}
use Rattle.meaning.specs.Schema.{under as under_type}
use Rattle.tables.specs.Columns.{types_of}
use Rattle.full_search.specs.Search.{broken_row}
use Rattle.full_search.proofs.breaks.Goals as goal

pub holds_at-requires : goal.holds_at-requires
holds_at-requires c =
    c.requires

pub returns-then-under : goal.returns-then-under
unfolding broken_row
returns-then-under c =
    let asked = ap (λ k. under_type (types_of c.args.n.types c.args.sheet.now.types.now) k c.args.context) (sym c.type_of.ensures) ∙ sym c.under.ensures ∙ c.if-under.true in
    rw asked (ap not c.holds_at.ensures)

pub returns-else-under : goal.returns-else-under
unfolding broken_row
returns-else-under c =
    let asked = ap (λ k. under_type (types_of c.args.n.types c.args.sheet.now.types.now) k c.args.context) (sym c.type_of.ensures) ∙ sym c.under.ensures ∙ c.if-under.false in
    rw asked
