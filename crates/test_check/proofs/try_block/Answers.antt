-- `try_block` is safe and ends: what is printed is within the bytes lent for it.
use mathlib.Core.Path.{ap}
use native.Mathlib.Omega.{arith}
use lib.ListN.{length, length-append}
use Rattle.test_check.proofs.try_block.Goals as goal

pub slice_bounds-out-end : goal.slice_bounds-out-end
slice_bounds-out-end c = omega (arith, c.check-printed.ensures.1, simp length-append at (ap length c.check-printed.ensures.0))
