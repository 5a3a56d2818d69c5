-- `bits::lowest` meets its contract.
use Rattle.bits.proofs.Digits.{lowest_is}
use Rattle.bits.proofs.lowest.Goals as goal

pub returns : goal.returns
returns c = lowest_is c.args.word
