-- `schema::floors::floored` meets its contract. The invariant: no floor before the row floors the cell.
use Prim.Native.Nat.{◌-◌}
use mathlib.Core.Bool.{◌&&◌}
use lib.Dec.{eqb}
use Rattle.meaning.specs.Schema.{under}
use Rattle.tables.specs.Columns.{floor_row, types_of}
use Rattle.schema.proofs.Scan.{Missed}
use Rattle.schema.proofs.floors.floored.Given as goal

abbrev pub invariant-loop-row : goal.invariant-loop-row
invariant-loop-row l =
    Missed (λ f. under (types_of l.type_count l.types) l.t f.type && eqb f.cell l.cell) (floor_row l.floors) l.floor_count l.row
