-- `schema::type_fault` meets its contract. The invariant: the types before t are passed.
use Prim.Native.Nat.{◌-◌}
use Rattle.meaning.specs.Schema.{faulty_type}
use Rattle.tables.specs.Columns.{type_row, types_of}
use Rattle.schema.proofs.Scan.{Passed}
use Rattle.schema.proofs.type_fault.Given as goal

abbrev pub invariant-loop-t : goal.invariant-loop-t
invariant-loop-t l = Passed (faulty_type (types_of l.type_count l.types)) (type_row l.types) l.type_count l.t
