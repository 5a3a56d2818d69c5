use Rattle.std.specs.Prelude.{◌+◌}
use Rattle.going_back.proofs.+back_over.Given as goal

-- The measure is twice the row where the form ends: `over` keeps the row and lies below `back`, which calls it; every other call is of a part,
-- which ends before.
abbrev pub decreases-back : goal.decreases-back
decreases-back l = l.at.1 + l.at.1 + 1

abbrev pub decreases-over : goal.decreases-over
decreases-over l = l.at.1 + l.at.1
