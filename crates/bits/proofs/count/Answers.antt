-- `bits::count` meets its contract.
use Rattle.bits.proofs.Digits.{count_is}
use Rattle.bits.proofs.count.Goals as goal

pub returns : goal.returns
returns c = count_is c.args.word c.ranges.word.fits
