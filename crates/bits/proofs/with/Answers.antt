-- `bits::with` meets its contract.
use Rattle.bits.proofs.Words.{with_is}
use Rattle.bits.proofs.with.Goals as goal

pub returns : goal.returns
returns c = with_is c.args.word c.args.i c.requires
