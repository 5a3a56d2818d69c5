-- `register_faults::faults::link_fault` meets its contract. The invariant: the links before the row are passed.
use Prim.Native.Nat.{◌-◌}
use mathlib.Core.List.{List}
use Rattle.meaning.specs.Schema.{Floor}
use Rattle.meaning.specs.Register.{faulty_link}
use Rattle.tables.specs.Columns.{link_row, schema_of, register_of}
use Rattle.schema.proofs.Scan.{Passed}
use Rattle.register_faults.proofs.faults.link_fault.Given as goal

abbrev pub invariant-loop-row : goal.invariant-loop-row
invariant-loop-row l =
    (fs : List Floor) → Passed (faulty_link (schema_of l.type_count l.types fs l.relationship_count l.relationships) (register_of l.object_count l.objects l.link_count l.links)) (link_row l.links) l.link_count l.row
