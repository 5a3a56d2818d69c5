-- `typing::floored_rows` meets its contract: each turn marks one row more.
use Prim.Native.Nat.{◌-◌, ◌≤◌}
use mathlib.Core.Path.{◌≡◌}
use lib.ListN.{length}
use Rattle.tables.specs.Columns.{floors_of, schema_of}
use Rattle.body_rows.specs.Marks.{body_of}
use Rattle.typing.specs.Types.{FlooredRows}
use Rattle.typing.proofs.floored_rows.Given as goal

abbrev pub invariant-loop-row : goal.invariant-loop-row
invariant-loop-row l =
    (l.row ≤ l.at.end) × (length l.floored ≡ 64)
    × FlooredRows (schema_of l.at.types l.types (floors_of l.at.floors l.floors) l.at.relationships l.relationships) (body_of l.bodies l.at.rule) l.row l.floored

abbrev pub decreases-loop-row : goal.decreases-loop-row
decreases-loop-row l = l.at.end - l.row
