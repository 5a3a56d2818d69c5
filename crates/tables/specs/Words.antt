-- The words of a row of each table, by what the row holds: docs/TABLES.md. What is read from them is what was written (`proofs/Determined`).
use Rattle.std.specs.Prelude.{ℕ, List, [], ◌∷◌, map}
use Rattle.std.proofs.Math.Option.{Option, none, some}
use Rattle.meaning.specs.Schema.{ObjectType, Floor, Relationship}
use Rattle.meaning.specs.Register.{Object, Link}
use Rattle.meaning.specs.Events.{Event, insert, delete, set, join, part, special, general}
use Rattle.rows.specs.Rows.{word_of}
use Rattle.tables.specs.Columns.{no_parent}

unfoldable pub parent_word : Option ℕ → ℕ
parent_word none = no_parent
parent_word (some p) = p

-- types: parent, cells
unfoldable pub type_words : ObjectType → List ℕ
type_words r = parent_word r.parent ∷ r.cells ∷ []

-- floors: type, cell
unfoldable pub floor_words : Floor → List ℕ
floor_words f = f.type ∷ f.cell ∷ []

-- relationships: source type, target type
unfoldable pub relationship_words : Relationship → List ℕ
relationship_words r = r.source ∷ r.target ∷ []

-- objects: id, type, eight cells
unfoldable pub object_words : Object → List ℕ
object_words o = o.id ∷ o.type ∷ map word_of o.cells

-- links: relationship, source id, target id
unfoldable pub link_words : Link → List ℕ
link_words l = l.relationship ∷ l.source ∷ l.target ∷ []

-- events: kind and three fields, those that an event does not use 0
unfoldable pub event_words : Event → List ℕ
event_words (insert x y) = 0 ∷ x ∷ y ∷ 0 ∷ []
event_words (delete x) = 1 ∷ x ∷ 0 ∷ 0 ∷ []
event_words (set x y v) = 2 ∷ x ∷ y ∷ word_of v ∷ []
event_words (join r x y) = 3 ∷ r ∷ x ∷ y ∷ []
event_words (part r x y) = 4 ∷ r ∷ x ∷ y ∷ []
event_words (special x y) = 5 ∷ x ∷ y ∷ 0 ∷ []
event_words (general x y) = 6 ∷ x ∷ y ∷ 0 ∷ []
