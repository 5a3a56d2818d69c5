use mathlib.Core.Path.{sym}
use lib.Seq.{length-take-le}
use Rattle.filling.proofs.put_in.Goals as goal

pub slice_bounds-write_row-end : goal.slice_bounds-write_row-end
slice_bounds-write_row-end c = sym (length-take-le c.before.args.width c.before.args.words.now c.before.requires)
