-- `checker_write` meets its contract. The words are those of the writer's answer.
use mathlib.Core.Path.{ap, ◌∙◌}
use Rattle.told.specs.Coded.{counted_words}
use Rattle.exports.proofs.texts.checker_write.Goals as goal

pub returns : goal.returns
returns c =
    let done = c.write-written.ensures in
    (c.counted.ensures ∙ ap counted_words done.0, done.1)
