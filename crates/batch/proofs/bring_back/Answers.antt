-- `batch::bring_back` meets its contract.
use mathlib.Core.Path.{ap, ◌∙◌}
use Rattle.rows.specs.Rows.{cleared_past}
use Rattle.rows.proofs.Offsets.{place_fits}
use Rattle.batch.proofs.bring_back.Goals as goal

pub overflow_mul-words : goal.overflow_mul-words
overflow_mul-words c = place_fits c.ranges.used c.ranges.width

pub returns : goal.returns
returns c =
    c.clear_past.ensures ∙ ap (λ t. cleared_past t c.args.width c.args.used) c.copy_words.ensures
