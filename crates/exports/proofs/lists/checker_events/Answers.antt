-- `checker_events` meets its contract. The words are those of the list's answer.
use mathlib.Core.Path.{ap, ◌∙◌}
use Rattle.told.specs.Coded.{counted_words}
use Rattle.exports.proofs.lists.checker_events.Goals as goal

pub returns : goal.returns
returns c =
    let done = c.list-listed.ensures in
    (c.counted.ensures ∙ ap counted_words done.0, done.1)
