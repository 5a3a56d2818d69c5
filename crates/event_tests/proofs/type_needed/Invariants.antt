-- `event_tests::type_needed` meets its contract. The invariant: no link before the row needs the object out of the type.
use mathlib.Core.List.{List}
use Rattle.meaning.specs.Schema.{Floor}
use Rattle.meaning.specs.Events.{needs_type}
use Rattle.tables.specs.Columns.{schema_of, link_row}
use Rattle.schema.proofs.Scan.{Missed}
use Rattle.event_tests.proofs.type_needed.Given as goal

abbrev pub invariant-loop-row : goal.invariant-loop-row
invariant-loop-row l =
    (fs : List Floor) → Missed (needs_type (schema_of l.type_count l.types fs l.relationship_count l.relationships) l.id l.t) (link_row l.links) l.count l.row
