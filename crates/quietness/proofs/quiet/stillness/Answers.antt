-- `quietness::quiet::stillness` meets its contract.
use Rattle.meaning.specs.Reach.{quiet, quiet_from}
use Rattle.quietness.proofs.quiet.stillness.Goals as goal

pub returns : goal.returns
unfolding quiet quiet_from
returns c = λ j. record { insert = c.quiet.ensures j; special = c.quiet-2.ensures j }
