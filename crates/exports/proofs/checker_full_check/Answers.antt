-- `checker_full_check` meets its contract. The words are those of the check's answer.
use mathlib.Core.Path.{ap, ◌∙◌}
use Rattle.told.specs.Coded.{said_words}
use Rattle.told.proofs.Coded.{answer_said}
use Rattle.exports.proofs.checker_full_check.Goals as goal

pub returns : goal.returns
returns c = c.answer.ensures ∙ ap said_words c.check-said.ensures ∙ answer_said _
