-- The columns of the tables. A row that is not used is not read.
use Rattle.std.specs.Prelude.{ℕ, ◌+◌, ◌*◌, ◌-◌, ◌^◌, cond, List, [], ◌∷◌, eqb, get_or}
use Rattle.std.proofs.Math.Option.{none, some}
use Rattle.meaning.specs.Limits.{max_forms, cell_count}
use Rattle.meaning.specs.Schema.{ObjectType, Floor, Relationship, Schema}
use Rattle.meaning.specs.Register.{Object, Link, Register}
use Rattle.meaning.specs.Forms.{Rule, Book}
use Rattle.meaning.specs.Events.{Event, insert, delete, set, join, part, special, general, link_of}
use Rattle.rows.specs.Rows.{word_at, read_rows, signed}
use Rattle.tables.specs.Layouts.{Sheet, type_table, floor_table, relationship_table, rule_table, object_table, link_table, event_table}
use Rattle.tables.specs.Bodies.{body_row, read_body}
use Rattle.tables.specs.declared.Counts.{Counts}
use Rattle.tables.specs.declared.Sheet as Code

-- the word that stands for no parent
abbrev pub no_parent : ℕ
no_parent = 2 ^ 32 - 1

-- types: parent, cells
unfoldable pub type_row : List ℕ → ℕ → ObjectType
type_row t i =
    record {
      parent = cond (eqb (word_at t type_table.width i 0) no_parent) none (some (word_at t type_table.width i 0));
      cells = word_at t type_table.width i 1;
    }

-- floors: type, cell
unfoldable pub floor_row : List ℕ → ℕ → Floor
floor_row t i = record { type = word_at t floor_table.width i 0; cell = word_at t floor_table.width i 1 }

-- relationships: source type, target type
unfoldable pub relationship_row : List ℕ → ℕ → Relationship
relationship_row t i =
    record { source = word_at t relationship_table.width i 0; target = word_at t relationship_table.width i 1 }

-- rules: context type, number of body rows. Rule n's body stands from row 64 n of the bodies on.
unfoldable pub rule_row : List ℕ → List ℕ → ℕ → Rule
rule_row rules bodies i =
    record {
      context = word_at rules rule_table.width i 0;
      body = read_body (λ j. body_row bodies (i * max_forms + j)) (word_at rules rule_table.width i 1);
    }

-- objects: id, type, eight cells
unfoldable pub object_row : List ℕ → ℕ → Object
object_row t i =
    record {
      id = word_at t object_table.width i 0;
      type = word_at t object_table.width i 1;
      cells = read_rows (λ k. signed (word_at t object_table.width i (2 + k))) cell_count;
    }

-- links: relationship, source id, target id
unfoldable pub link_row : List ℕ → ℕ → Link
link_row t i = link_of (word_at t link_table.width i 0) (word_at t link_table.width i 1) (word_at t link_table.width i 2)

-- An event that is no event of document 01: refusal 7 meets it, since no id is 0.
abbrev pub no_event : Event
no_event = delete 0

-- events: kind, in document 01's order from 0, and three fields; "a field that its row does not use is 0, else .. 7 is met there"
unfoldable pub event_of : ℕ → ℕ → ℕ → ℕ → Event
event_of kind x y z =
    get_or
    (cond (eqb z 0) (insert x y) no_event
    ∷ cond (eqb y 0) (cond (eqb z 0) (delete x) no_event) no_event
    ∷ set x y (signed z)
    ∷ join x y z
    ∷ part x y z
    ∷ cond (eqb z 0) (special x y) no_event
    ∷ cond (eqb z 0) (general x y) no_event
    ∷ [])
    kind no_event

unfoldable pub event_row : List ℕ → ℕ → Event
event_row t i =
    let width = event_table.width in
    event_of (word_at t width i 0) (word_at t width i 1) (word_at t width i 2) (word_at t width i 3)

-- The types, the floors, the relationships, the schema, the rules, the register and the batch of tables with so many used rows.
abbrev pub types_of : ℕ → List ℕ → List ObjectType
types_of type_count types = read_rows (type_row types) type_count

abbrev pub floors_of : ℕ → List ℕ → List Floor
floors_of floor_count floors = read_rows (floor_row floors) floor_count

abbrev pub relationships_of : ℕ → List ℕ → List Relationship
relationships_of relationship_count relationships = read_rows (relationship_row relationships) relationship_count

-- what asks nothing of the floors is said of any
abbrev pub schema_of : ℕ → List ℕ → List Floor → ℕ → List ℕ → Schema
schema_of type_count types floors relationship_count relationships =
    record { types = types_of type_count types; floors = floors; relationships = relationships_of relationship_count relationships }

-- that of lent tables
abbrev pub schema_in : Counts → Code.Sheet → Schema
schema_in n s = schema_of n.types s.types.now (floors_of n.floors s.floors.now) n.relationships s.relationships.now

abbrev pub rules_of : ℕ → List ℕ → List ℕ → List Rule
rules_of rule_count rules bodies = read_rows (rule_row rules bodies) rule_count

abbrev pub register_of : ℕ → List ℕ → ℕ → List ℕ → Register
register_of object_count objects link_count links =
    record { objects = read_rows (object_row objects) object_count; links = read_rows (link_row links) link_count }

abbrev pub events_of : ℕ → List ℕ → List Event
events_of event_count events = read_rows (event_row events) event_count

-- the book, the register and the batch of a sheet with so many used rows
abbrev pub book_of : Counts → Sheet → Book
book_of n s =
    record {
      schema = schema_of n.types s.types (floors_of n.floors s.floors) n.relationships s.relationships;
      rules = rules_of n.rules s.rules s.bodies;
    }

abbrev pub register_in : Counts → Sheet → Register
register_in n s = register_of n.objects s.objects n.links s.links

abbrev pub batch_in : Counts → Sheet → List Event
batch_in n s = events_of n.events s.events
