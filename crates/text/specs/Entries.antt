-- The lines of the text as rows of tables: `(type n p c)`, `(floor t k)`, `(rel r s t)`, `(rule n t body)`, `(ent id t v..)`, `(link r a b)`, events.
use Rattle.std.specs.Prelude.{ℕ, ◌+◌, ◌-◌, ◌^◌, Bool, true, false, ◌&&◌, ◌||◌, cond, List, [], ◌∷◌, ◌++◌, ltb, leb, eqb, length, get_or, take, drop}
use Rattle.std.proofs.Math.Option.{Option, none, some, bind, map}
use Rattle.meaning.specs.Lists.{every, keep}
use Rattle.meaning.specs.Limits.{cell_count}
use Rattle.rows.specs.Rows.{word_at}
use Rattle.tables.specs.Layouts.{Layout, body_words, type_table, floor_table, link_table}
use Rattle.tables.specs.Columns.{no_parent}
use Rattle.text.specs.Names.{type_name, floor_name, relationship_name, rule_name, object_name, link_name, first_event}
use Rattle.text.specs.Tokens.{Token, begin, item, end, dash, is_word, Bracket, spell_bracket, bracket_in}
use Rattle.text.specs.Bodies.{Written, forms_in, padded, rows_of, closing, tokens_of, form_in}

-- A line: a row of words of a section (0 types, 1 floors, 2 relationships, 4 objects, 5 links, 6 events), or a rule (3).
pub data Entry : Type 0 where
  row : (section : ℕ) → List ℕ → Entry
  rule : (context : ℕ) → Written → Entry

-- the sections in their order
abbrev pub event_section : ℕ
event_section = first_event

unfoldable pub section_of : Entry → ℕ
section_of (row s words) = s
section_of (rule t body) = rule_name

-- a row's words, as its table holds them
unfoldable pub entry_words : Entry → List ℕ
entry_words (row s words) = words
entry_words (rule t body) = t ∷ forms_in body ∷ []

-- ---- the tables of lines

abbrev pub is_of : ℕ → Entry → Bool
is_of s e = eqb (section_of e) s

unfoldable pub count_of : ℕ → List Entry → ℕ
count_of s es = length (keep (is_of s) es)

-- the words of a section's rows, one row after the other
unfoldable pub table_of : ℕ → List Entry → List ℕ
table_of s [] = []
table_of s (e ∷ es) = cond (is_of s e) (entry_words e ++ table_of s es) (table_of s es)

-- the rows of every body, and zeros up to 64 rows for each
unfoldable pub bodies_of : List Entry → List ℕ
bodies_of [] = []
bodies_of (row s words ∷ es) = bodies_of es
bodies_of (rule t body ∷ es) = padded body_words (rows_of body) ++ bodies_of es

-- how many cells the text gives a type
abbrev pub cells_in : List Entry → ℕ → ℕ
cells_in before t = word_at (table_of type_name before) type_table.width t 1

-- the section of the last line
unfoldable pub last_section : ℕ → List Entry → ℕ
last_section s [] = s
last_section s (e ∷ es) = last_section (section_of e) es

-- ---- the spelling of a line, after the lines before it

abbrev pub parent_item : ℕ → ℕ
parent_item w = cond (eqb w no_parent) dash w

-- the fields of an event by its kind: insert, delete, set, join, part, special, general
unfoldable pub event_fields : ℕ → ℕ
event_fields kind = get_or (2 ∷ 1 ∷ 3 ∷ 3 ∷ 3 ∷ 2 ∷ 2 ∷ []) kind 0

unfoldable pub items_of : List Entry → ℕ → List ℕ → List ℕ
items_of before s words =
    cond (eqb s type_name) (count_of type_name before ∷ parent_item (get_or words 0 0) ∷ get_or words 1 0 ∷ [])
    (cond (eqb s floor_name) words
    (cond (eqb s relationship_name) (count_of relationship_name before ∷ words)
    (cond (eqb s object_name) (take (2 + cells_in before (get_or words 1 0)) words)
    (cond (eqb s link_name) words
    (take (event_fields (get_or words 0 0)) (drop 1 words))))))

-- an event's name is that of its kind
unfoldable pub name_for : ℕ → List ℕ → ℕ
name_for s words = cond (ltb s event_section) s (event_section + get_or words 0 0)

unfoldable pub bracket_of : List Entry → Entry → Bracket
bracket_of before (row s words) = record { name = name_for s words; tokens = closing (items_of before s words) }
bracket_of before (rule t body) =
    record { name = rule_name; tokens = item (count_of rule_name before) ∷ item t ∷ tokens_of body ++ end ∷ [] }

unfoldable pub spell_entry : List Entry → Entry → List ℕ
spell_entry before e = spell_bracket (bracket_of before e)

-- ---- the row that a line says, after the lines before it; none is refusal 1

-- the items of a line without an inner bracket
unfoldable pub items_in : List Token → Option (List ℕ)
items_in [] = none
items_in (begin k ∷ ts) = none
items_in (item v ∷ ts) = map (λ vs. v ∷ vs) (items_in ts)
items_in (end ∷ []) = some []
items_in (end ∷ t ∷ ts) = none

abbrev pub row_if : Bool → ℕ → List ℕ → Option Entry
row_if fits s words = cond fits (some (row s words)) none

-- "numbered by position, else 1; so is a parent below 0"
unfoldable pub is_type_line : List Entry → List ℕ → Bool
is_type_line before is =
    eqb (length is) 3 && (eqb (get_or is 0 0) (count_of type_name before)
    && ((ltb (get_or is 1 0) (2 ^ 31) || eqb (get_or is 1 0) dash) && is_word (get_or is 2 0)))

abbrev pub parent_word : ℕ → ℕ
parent_word v = cond (eqb v dash) no_parent v

unfoldable pub type_in : List Entry → List ℕ → Option Entry
type_in before is = row_if (is_type_line before is) type_name (parent_word (get_or is 1 0) ∷ get_or is 2 0 ∷ [])

unfoldable pub is_relationship_line : List Entry → List ℕ → Bool
is_relationship_line before is = eqb (length is) 3 && (eqb (get_or is 0 0) (count_of relationship_name before) && every is_word is)

unfoldable pub relationship_in : List Entry → List ℕ → Option Entry
relationship_in before is = row_if (is_relationship_line before is) relationship_name (drop 1 is)

-- "with precisely the type's cells"; "an `ent` line whose type the text lacks or gives other than 0 to 8 cells" is 1
unfoldable pub is_object_line : List Entry → List ℕ → Bool
is_object_line before is =
    leb 2 (length is) && (every is_word is && (ltb (get_or is 1 0) (count_of type_name before)
    && (leb (cells_in before (get_or is 1 0)) cell_count && eqb (length is) (2 + cells_in before (get_or is 1 0)))))

unfoldable pub object_in : List Entry → List ℕ → Option Entry
object_in before is = row_if (is_object_line before is) object_name (padded (2 + cell_count) is)

-- a line whose items are its row's words: a floor, whose type and cell are met at 3, and a link
unfoldable pub is_plain_line : Layout → List ℕ → Bool
is_plain_line l is = eqb (length is) l.width && every is_word is

unfoldable pub plain_in : Layout → List ℕ → Option Entry
plain_in l is = row_if (is_plain_line l is) l.section is

unfoldable pub is_event_line : ℕ → List ℕ → Bool
is_event_line kind is = ltb kind 7 && (eqb (length is) (event_fields kind) && every is_word is)

unfoldable pub event_in : ℕ → List ℕ → Option Entry
event_in kind is = row_if (is_event_line kind is) event_section (kind ∷ padded 3 is)

unfoldable pub row_in : List Entry → ℕ → List ℕ → Option Entry
row_in before name is =
    cond (eqb name type_name) (type_in before is)
    (cond (eqb name floor_name) (plain_in floor_table is)
    (cond (eqb name relationship_name) (relationship_in before is)
    (cond (eqb name object_name) (object_in before is)
    (cond (eqb name link_name) (plain_in link_table is)
    (cond (leb first_event name) (event_in (name - first_event) is) none)))))

abbrev pub only_end : List Token → Bool
only_end [] = false
only_end (begin k ∷ ts) = false
only_end (item v ∷ ts) = false
only_end (end ∷ []) = true
only_end (end ∷ t ∷ ts) = false

unfoldable pub body_in : ℕ → List Token → Option Entry
body_in t ts = bind (form_in (length ts) ts) (λ f. cond (only_end f.rest) (some (rule t f.form)) none)

unfoldable pub rule_in : List Entry → List Token → Option Entry
rule_in before [] = none
rule_in before (begin k ∷ ts) = none
rule_in before (end ∷ ts) = none
rule_in before (item n ∷ []) = none
rule_in before (item n ∷ begin k ∷ ts) = none
rule_in before (item n ∷ end ∷ ts) = none
rule_in before (item n ∷ item t ∷ ts) = cond (eqb n (count_of rule_name before) && is_word t) (body_in t ts) none

unfoldable pub inside_in : List Entry → Bracket → Option Entry
inside_in before b =
    cond (eqb b.name rule_name) (rule_in before b.tokens) (bind (items_in b.tokens) (λ is. row_in before b.name is))

-- "Sections in order"
unfoldable pub in_order : List Entry → Entry → Option Entry
in_order before e = cond (leb (last_section 0 before) (section_of e)) (some e) none

unfoldable pub entry_in : List Entry → List ℕ → Option Entry
entry_in before line = bind (bind (bracket_in line) (inside_in before)) (in_order before)
