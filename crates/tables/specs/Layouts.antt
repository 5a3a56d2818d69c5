-- The lent tables as one sheet, and what docs/TABLES.md says of each of them.
use Rattle.std.specs.Prelude.{ℕ, ◌*◌, ◌/◌, min, List, [], ◌∷◌, ◌++◌, eqb, get_or}
use Rattle.meaning.specs.Lists.{keep}
use Rattle.meaning.specs.Limits.{max_types, max_floors, max_relationships, max_rules, max_forms, max_objects, max_links, max_events}
use Rattle.rows.specs.Rows.{read_rows, rows_lent}
use Rattle.tables.specs.declared.Counts.{Counts}
use Rattle.tables.specs.declared.Sheet as Code

-- the words of each lent table
pub record Sheet : Type 0 where
  pub types : List ℕ
  pub floors : List ℕ
  pub relationships : List ℕ
  pub rules : List ℕ
  pub bodies : List ℕ
  pub objects : List ℕ
  pub links : List ℕ
  pub events : List ℕ

abbrev pub sheet_of : List ℕ → List ℕ → List ℕ → List ℕ → List ℕ → List ℕ → List ℕ → List ℕ → Sheet
sheet_of types floors relationships rules bodies objects links events =
    record {
      types = types;
      floors = floors;
      relationships = relationships;
      rules = rules;
      bodies = bodies;
      objects = objects;
      links = links;
      events = events;
    }

-- the words of the tables that a call is lent; the same without a batch, and a book's alone
abbrev pub sheet_in : Code.Sheet → Sheet
sheet_in s = sheet_of s.types.now s.floors.now s.relationships.now s.rules.now s.bodies.now s.objects.now s.links.now s.events.now

abbrev pub register_sheet : Code.Sheet → Sheet
register_sheet s = sheet_of s.types.now s.floors.now s.relationships.now s.rules.now s.bodies.now s.objects.now s.links.now []

abbrev pub book_sheet : Code.Sheet → Sheet
book_sheet s = sheet_of s.types.now s.floors.now s.relationships.now s.rules.now s.bodies.now [] [] []

-- One table: the section of the text whose lines fill it, the words of a row, the rows that such a line takes, the limit on the used
-- rows, and its words and its used rows in a call.
pub record Layout : Type 0 where
  pub section : ℕ
  pub width : ℕ
  pub each : ℕ
  pub limit : ℕ
  pub words : Sheet → List ℕ
  pub used : Counts → ℕ

abbrev pub type_table : Layout
type_table = record { section = 0; width = 2; each = 1; limit = max_types; words = λ s. s.types; used = λ n. n.types }

abbrev pub floor_table : Layout
floor_table = record { section = 1; width = 2; each = 1; limit = max_floors; words = λ s. s.floors; used = λ n. n.floors }

abbrev pub relationship_table : Layout
relationship_table =
    record {
      section = 2;
      width = 2;
      each = 1;
      limit = max_relationships;
      words = λ s. s.relationships;
      used = λ n. n.relationships;
    }

abbrev pub rule_table : Layout
rule_table = record { section = 3; width = 2; each = 1; limit = max_rules; words = λ s. s.rules; used = λ n. n.rules }

-- "a body of at most 64 forms": each rule has so many rows
abbrev pub body_table : Layout
body_table =
    record {
      section = 3;
      width = 4;
      each = max_forms;
      limit = max_rules * max_forms;
      words = λ s. s.bodies;
      used = λ n. n.rules * max_forms;
    }

abbrev pub object_table : Layout
object_table = record { section = 4; width = 10; each = 1; limit = max_objects; words = λ s. s.objects; used = λ n. n.objects }

abbrev pub link_table : Layout
link_table = record { section = 5; width = 3; each = 1; limit = max_links; words = λ s. s.links; used = λ n. n.links }

abbrev pub event_table : Layout
event_table = record { section = 6; width = 4; each = 1; limit = max_events; words = λ s. s.events; used = λ n. n.events }

-- how many words of the table of bodies are a rule's
abbrev pub body_words : ℕ
body_words = body_table.width * body_table.each

-- the tables of a book and a register, and those of a batch with them
unfoldable pub book_tables : List Layout
book_tables = type_table ∷ floor_table ∷ relationship_table ∷ rule_table ∷ body_table ∷ object_table ∷ link_table ∷ []

unfoldable pub layouts : List Layout
unfolding book_tables
layouts = book_tables ++ event_table ∷ []

-- the sections of the text
abbrev pub section_count : ℕ
section_count = 7

-- A number for each section, by a number for each table: the least of those that its lines fill.
abbrev least : (Layout → ℕ) → List Layout → ℕ
least f [] = 0
least f (l ∷ []) = f l
least f (l ∷ m ∷ more) = min (f l) (least f (m ∷ more))

unfoldable pub by_section : (Layout → ℕ) → List ℕ
unfolding layouts
by_section f = read_rows (λ section. least f (keep (λ l. eqb l.section section) layouts)) section_count

-- the limit on the lines of a section
unfoldable pub limit_of : ℕ → ℕ
unfolding by_section
limit_of section = get_or (by_section (λ l. l.limit / l.each)) section 0

-- the words of a section's rows; of the rules' section, of a rule's row
unfoldable pub width_of : ℕ → ℕ
unfolding by_section
width_of section = get_or (by_section (λ l. l.width)) section 0

-- the lines of each section for which there are rows
unfoldable pub lines_lent : Sheet → List ℕ
unfolding by_section
lines_lent s = by_section (λ l. rows_lent (l.words s) (l.width * l.each))
