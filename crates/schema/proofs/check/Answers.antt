-- `schema::check` meets its contract. The first of the places is that of `first_of`.
use mathlib.Core.Path.{◌∙◌}
use Rattle.meaning.specs.Lists.{first_of}
use Rattle.meaning.specs.Schema.{type_fault, floor_fault, relationship_fault}
use Rattle.tables.specs.Columns.{floors_of, schema_of}
use Rattle.schema.proofs.Founds.{found_or}
use Rattle.schema.proofs.check.Goals as goal

pub returns : goal.returns
returns c =
    let a = c.args in
    let s = schema_of a.type_count a.types.now (floors_of a.floor_count a.floors.now) a.relationship_count a.relationships.now in
    c.or-2.ensures
    ∙ found_or (type_fault s.types) (first_of (floor_fault s) (relationship_fault s)) c.type_fault-t.ensures
    (c.or.ensures ∙ found_or (floor_fault s) (relationship_fault s) (c.floor_fault-f.ensures _) (c.relationship_fault-r.ensures a.types.now _))
