-- The tables as the lines of a text fill them, one after the other.
use Rattle.std.specs.Prelude.{ℕ, ◌*◌, ◌≡◌, cond, List, eqb, length, get_or, take, drop}
use Rattle.rows.specs.Rows.{with_row}
use Rattle.tables.specs.Layouts.{Sheet, sheet_of, Layout, body_words, type_table, floor_table, relationship_table, rule_table, object_table, link_table, event_table}
use Rattle.text.specs.Names.{type_name, floor_name, relationship_name, rule_name, object_name, link_name}
use Rattle.text.specs.Bodies.{Written, rows_of}
use Rattle.text.specs.Entries.{Entry, event_section, table_of, bodies_of}
use Rattle.text.specs.Texts.{filled}
use Rattle.brackets.specs.Whole.{WholeBody, rows_put}
use Rattle.line_reader.specs.declared.line.Row.{Row}
use Rattle.line_reader.specs.Rows.{body_place}

-- a table with a line's row in its place, where the line is of the table's section; `counts` has the rows of each section before it
abbrev pub row_put : Layout → Row → List ℕ → List ℕ → List ℕ
row_put l row counts t =
    cond (eqb row.section l.section) (with_row t l.width (get_or counts l.section 0) (take l.width row.words)) t

-- what a line leaves in the tables: its row, and its body's rows where it is a rule's
pub record LinePut (line : List ℕ) (row : Row) (counts : List ℕ) (before after : Sheet) : Type 0 where
  pub types_put : after.types ≡ row_put type_table row counts before.types
  pub floors_put : after.floors ≡ row_put floor_table row counts before.floors
  pub relationships_put : after.relationships ≡ row_put relationship_table row counts before.relationships
  pub rules_put : after.rules ≡ row_put rule_table row counts before.rules
  pub bodies_put : (t : ℕ) (w : Written) → row.section ≡ rule_name → WholeBody (drop (body_place line) line) t w
      → after.bodies ≡ rows_put before.bodies (get_or counts rule_name 0 * body_words) (rows_of w)
  pub bodies_kept : (row.section ≡ rule_name → ⊥) → after.bodies ≡ before.bodies
  pub objects_put : after.objects ≡ row_put object_table row counts before.objects
  pub links_put : after.links ≡ row_put link_table row counts before.links
  pub events_put : after.events ≡ row_put event_table row counts before.events

-- each table has the rows of its section from the front, and zeros after them
abbrev pub sheet_with : List Entry → Sheet → Sheet
sheet_with es s =
    sheet_of
    (filled (length s.types) (table_of type_name es))
    (filled (length s.floors) (table_of floor_name es))
    (filled (length s.relationships) (table_of relationship_name es))
    (filled (length s.rules) (table_of rule_name es))
    (filled (length s.bodies) (bodies_of es))
    (filled (length s.objects) (table_of object_name es))
    (filled (length s.links) (table_of link_name es))
    (filled (length s.events) (table_of event_section es))
