-- `batch_claims::check` meets its contract: every sentence, by the promise of the check that it calls.
use Rattle.batch_claims.proofs.Theorems.{demand_3}
use Rattle.batch_claims.proofs.check.Goals as goal

pub returns : goal.returns
returns c =
    demand_3 _ c.check.ensures
