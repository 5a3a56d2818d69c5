-- The lines of lent tables by row numbers: what the writer puts for each row, and for all rows of each section in order.
use Rattle.std.specs.Prelude.{ℕ, zero, suc, ◌+◌, ◌*◌, ◌≤◌, ◌<◌, ◌≡◌, cond, List, [], ◌∷◌, ◌++◌, map, T, eqb, length, get_or, take, drop}
use Rattle.meaning.specs.Limits.{cell_count}
use Rattle.rows.specs.Rows.{word_at}
use Rattle.tables.specs.Layouts.{Sheet, section_count, floor_table, link_table}
use Rattle.tables.specs.Columns.{rule_row}
use Rattle.tables.specs.Bodies.{BodyRow, Part, part, ending, whole_body}
use Rattle.tables.specs.declared.Counts.{Counts}
use Rattle.body_rows.specs.Marks.{body_of}
use Rattle.text.specs.Names.{type_name, floor_name, relationship_name, rule_name, object_name, link_name, first_event}
use Rattle.text.specs.Tokens.{item, end, spell_tokens, spell_bracket}
use Rattle.text.specs.Bodies.{Written, closing, tokens_of, written_of}
use Rattle.text.specs.Entries.{parent_item, event_fields}

-- items, each after a space
unfoldable pub spell_items : List ℕ → List ℕ
spell_items is = spell_tokens (map item is)

-- fields and the closed bracket
unfoldable pub spell_closing : List ℕ → List ℕ
spell_closing fields = spell_tokens (closing fields)

-- a line of a name and items, with its byte 10
unfoldable pub row_line : ℕ → List ℕ → List ℕ
row_line name is = spell_bracket (record { name = name; tokens = closing is }) ++ 10 ∷ []

-- ---- a body

unfoldable pub written_part : Part → Written
written_part (part s f) = written_of f

-- the form that ends before row e
unfoldable pub spell_form : (ℕ → BodyRow) → ℕ → List ℕ
spell_form rows e = spell_tokens (tokens_of (written_part (ending rows e).form))

-- ---- a line of each table, with its byte 10

unfoldable pub type_line : List ℕ → ℕ → List ℕ
type_line types i = row_line type_name (i ∷ parent_item (word_at types 2 i 0) ∷ word_at types 2 i 1 ∷ [])

unfoldable pub relationship_line : List ℕ → ℕ → List ℕ
relationship_line relationships i = row_line relationship_name (i ∷ word_at relationships 2 i 0 ∷ word_at relationships 2 i 1 ∷ [])

unfoldable pub rule_line : List ℕ → List ℕ → ℕ → List ℕ
rule_line rules bodies i =
    spell_bracket (record {
      name = rule_name;
      tokens = item i ∷ item (word_at rules 2 i 0) ∷ tokens_of (written_of (rule_row rules bodies i).body) ++ end ∷ [];
    }) ++ 10 ∷ []

-- how many cells the type of an object has
abbrev pub cells_for : List ℕ → List ℕ → ℕ → ℕ
cells_for types objects i = word_at types 2 (word_at objects 10 i 1) 1

unfoldable pub object_line : List ℕ → List ℕ → ℕ → List ℕ
object_line types objects i = row_line object_name (take (2 + cells_for types objects i) (drop (i * 10) objects))

-- the line of a floor or a link: the words of its row
unfoldable pub plain_line : ℕ → List ℕ → ℕ → ℕ → List ℕ
plain_line name t width i = row_line name (take width (drop (i * width) t))

unfoldable pub event_line : List ℕ → ℕ → List ℕ
event_line events i =
    row_line (first_event + word_at events 4 i 0) (take (event_fields (word_at events 4 i 0)) (drop (i * 4 + 1) events))

-- ---- the lines of a section, by its number

unfoldable pub line_of : Sheet → ℕ → ℕ → List ℕ
line_of s section i =
    cond (eqb section type_name) (type_line s.types i)
    (cond (eqb section floor_name) (plain_line floor_name s.floors floor_table.width i)
    (cond (eqb section relationship_name) (relationship_line s.relationships i)
    (cond (eqb section rule_name) (rule_line s.rules s.bodies i)
    (cond (eqb section object_name) (object_line s.types s.objects i)
    (cond (eqb section link_name) (plain_line link_name s.links link_table.width i) (event_line s.events i))))))

-- how many rows of a section are used
unfoldable pub rows_in : Counts → ℕ → ℕ
rows_in n section =
    get_or (n.types ∷ n.floors ∷ n.relationships ∷ n.rules ∷ n.objects ∷ n.links ∷ n.events ∷ []) section 0

-- what stands for 0 to k - 1, one after the other
unfoldable pub lines_of : (ℕ → List ℕ) → ℕ → List ℕ
lines_of line zero = []
lines_of line (suc k) = lines_of line k ++ line k

-- all used rows of a section
unfoldable pub section_text : Counts → Sheet → ℕ → List ℕ
section_text n s section = lines_of (line_of s section) (rows_in n section)

-- the sections in order
unfoldable pub sheet_text : Counts → Sheet → List ℕ
sheet_text n s = lines_of (section_text n s) section_count

-- what the line of a row needs, by its section
pub record Fit (s : Sheet) (section i : ℕ) : Type 0 where
  pub there : section < section_count
  pub whole : section ≡ rule_name → T (whole_body (body_of s.bodies i) (word_at s.rules 2 i 1))
  pub cells : section ≡ object_name → cells_for s.types s.objects i ≤ cell_count
  pub object_lent : section ≡ object_name → i * 10 + 10 ≤ length s.objects
  pub floor_lent : section ≡ floor_name → i * 2 + 2 ≤ length s.floors
  pub link_lent : section ≡ link_name → i * 3 + 3 ≤ length s.links
  pub kind : section ≡ first_event → word_at s.events 4 i 0 < 7
  pub event_lent : section ≡ first_event → i * 4 + 4 ≤ length s.events
