-- `schema::relationship_fault` meets its contract. The invariant: the relationships before this one are passed.
use Prim.Native.Nat.{ℕ, ◌-◌}
use mathlib.Core.List.{List}
use Rattle.meaning.specs.Schema.{faulty_relationship}
use Rattle.tables.specs.Columns.{relationship_row, types_of}
use Rattle.schema.proofs.Scan.{Passed}
use Rattle.schema.proofs.relationship_fault.Given as goal

abbrev pub invariant-loop-relationship : goal.invariant-loop-relationship
invariant-loop-relationship l =
    (types : List ℕ) → Passed (faulty_relationship (types_of l.type_count types)) (relationship_row l.relationships) l.relationship_count l.relationship
