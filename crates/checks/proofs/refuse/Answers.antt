-- `checks::refuse` meets its contract.
use Rattle.checks.proofs.refuse.Goals as goal

pub returns-in-Some : goal.returns-in-Some
returns-in-Some c = rw c.in-Some.is
