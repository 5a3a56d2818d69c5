-- `checker_check` meets its contract. The number is that of the check's verdict.
use mathlib.Core.Path.{ap, ◌∙◌}
use Rattle.told.specs.Coded.{verdict_code}
use Rattle.told.proofs.Coded.{verdict_coded}
use Rattle.exports.proofs.checker_check.Goals as goal

pub returns : goal.returns
returns c = c.verdict.ensures ∙ ap verdict_code c.check-verdict.ensures ∙ verdict_coded _
