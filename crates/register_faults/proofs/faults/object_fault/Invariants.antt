-- `register_faults::faults::object_fault` meets its contract. The invariant: the objects before the row are passed.
use Prim.Native.Nat.{◌-◌}
use Rattle.meaning.specs.Register.{faulty_object}
use Rattle.tables.specs.Columns.{object_row, types_of, floors_of}
use Rattle.schema.proofs.Scan.{Passed}
use Rattle.register_faults.proofs.faults.object_fault.Given as goal

abbrev pub invariant-loop-row : goal.invariant-loop-row
invariant-loop-row l =
    Passed (faulty_object (types_of l.type_count l.types) (floors_of l.floor_count l.floors)) (object_row l.objects) l.object_count l.row
