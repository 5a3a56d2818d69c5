-- `pair_marks::from_bit` meets its contract.
use Rattle.pair_marks.proofs.Bits.{shifted, high_bit}
use Rattle.pair_marks.proofs.from_bit.Goals as goal

pub returns : goal.returns
returns c = (shifted c.args.word c.args.i, high_bit c.args.word c.ranges.word.fits)
