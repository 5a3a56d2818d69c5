-- `schema::floors::floor_fault` meets its contract. The invariant: the floors before the row are passed.
use Prim.Native.Nat.{◌-◌}
use Rattle.meaning.specs.Schema.{faulty_floor}
use Rattle.tables.specs.Columns.{floor_row, types_of}
use Rattle.schema.proofs.Scan.{Passed}
use Rattle.schema.proofs.floors.floor_fault.Given as goal

abbrev pub invariant-loop-row : goal.invariant-loop-row
invariant-loop-row l = Passed (faulty_floor (types_of l.type_count l.types)) (floor_row l.floors) l.floor_count l.row
