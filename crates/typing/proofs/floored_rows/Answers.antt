-- `typing::floored_rows` meets its contract: each turn marks one row more.
use Prim.Native.Nat.{◌<◌}
use mathlib.Core.Path.{sym, ◌∙◌}
use native.Mathlib.Omega.{arith}
use Rattle.body_rows.specs.Marks.{body_of}
use Rattle.body_rows.proofs.Kept.{starts_less}
use Rattle.typing.proofs.Floors.{sums_collect}
use Rattle.typing.proofs.floored_rows.Goals as goal

pub floored_sum-sum-requires : goal.floored_sum-sum-requires
floored_sum-sum-requires c =
    let row = c.loop-row.row in
    let below : row < c.args.at.end = omega arith in
    (starts_less c.requires.0 row (omega arith), sums_collect (body_of c.args.bodies.now c.args.at.rule) c.args.at.end row c.requires.1 below (sym c.field.ensures ∙ c.if-field-eq-SUM.true))
