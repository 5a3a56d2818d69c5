-- `checker_batch` meets its contract. The words are those of the check's outcome.
use Rattle.exports.proofs.Outcomes.{batch_told}
use Rattle.exports.proofs.batches.checker_batch.Goals as goal

pub returns : goal.returns
returns c = batch_told c.check-done.ensures c.checked.ensures
