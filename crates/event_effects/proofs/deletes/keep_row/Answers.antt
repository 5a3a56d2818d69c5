-- `event_effects::deletes::keep_row` meets its contract.
use mathlib.Core.Path.{sym, ap, ◌∙◌}
use Rattle.meaning.specs.Register.{link_key}
use Rattle.rows.specs.Rows.{with_row}
use Rattle.tables.specs.Columns.{link_row}
use Rattle.event_effects.proofs.Passes.{put_same}
use Rattle.event_effects.proofs.deletes.keep_row.Goals as goal

pub returns-then-kept-row : goal.returns-then-kept-row
returns-then-kept-row c =
    let t = c.args.links.now in
    let row = c.args.row in
    sym (ap (λ i. with_row t 3 i (link_key (link_row t row))) c.if-kept-row.true ∙ put_same t row c.requires)
