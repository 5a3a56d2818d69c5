-- Lent tables of a book, a register and a batch as the lines of a text.
use Rattle.std.specs.Prelude.{ℕ, List, ◌++◌}
use Rattle.rows.specs.Rows.{word_at, read_rows}
use Rattle.tables.specs.Layouts.{Sheet, Layout, type_table, floor_table, relationship_table, rule_table, object_table, link_table, event_table}
use Rattle.tables.specs.Columns.{rule_row}
use Rattle.tables.specs.declared.Counts.{Counts}
use Rattle.text.specs.Bodies.{written_of}
use Rattle.text.specs.Entries.{Entry, row, rule}
use Rattle.text.specs.Texts.{spelled}

-- the words of a row
abbrev pub words_at : List ℕ → ℕ → ℕ → List ℕ
words_at t width i = read_rows (word_at t width i) width

-- the row of a table as a line of its section
abbrev pub row_entry : Layout → List ℕ → ℕ → Entry
row_entry l t i = row l.section (words_at t l.width i)

abbrev pub rule_entry : List ℕ → List ℕ → ℕ → Entry
rule_entry rules bodies i = rule (word_at rules rule_table.width i 0) (written_of (rule_row rules bodies i).body)

-- the used rows of a table as lines
abbrev pub row_entries : Layout → Counts → Sheet → List Entry
row_entries l n s = read_rows (row_entry l (l.words s)) (l.used n)

abbrev pub rule_entries : Counts → Sheet → List Entry
rule_entries n s = read_rows (rule_entry s.rules s.bodies) n.rules

-- "Sections in order": types, floors, relationships, rules, objects, links, events
unfoldable pub entries_of : Counts → Sheet → List Entry
entries_of n s =
    row_entries type_table n s
    ++ row_entries floor_table n s
    ++ row_entries relationship_table n s
    ++ rule_entries n s
    ++ row_entries object_table n s
    ++ row_entries link_table n s
    ++ row_entries event_table n s

-- the text of a sheet
unfoldable pub text_of : Counts → Sheet → List ℕ
text_of n s = spelled (entries_of n s)
