-- `checker_read` meets its contract. The words are those of the reading, and the tables are as the reader leaves them.
use mathlib.Core.Path.{ap, ◌∙◌}
use Rattle.told.specs.Coded.{done_words}
use Rattle.told.proofs.Coded.{reading_told}
use Rattle.exports.proofs.checker_read.Goals as goal

pub returns : goal.returns
returns c =
    let done = c.read-done.ensures in
    (c.reading.ensures ∙ ap done_words done.0 ∙ reading_told _, done.1)
