use Rattle.line_reader.specs.Rows.{next_after, body_place}
use mathlib.Core.Path.{ap, ◌∙◌}
use Rattle.line_reader.proofs.line.body_place.Goals as goal

pub returns : goal.returns
unfolding body_place
returns c = c.after_item.ensures ∙ ap (next_after c.args.line.now) (c.after_item-number.ensures ∙ ap (next_after c.args.line.now) c.name-name.ensures.1)
