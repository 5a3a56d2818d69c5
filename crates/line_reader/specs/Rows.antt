-- A line's row as the code holds it, by its items, and what the code keeps of the lines before it.
use Rattle.std.specs.Prelude.{ℕ, ◌+◌, ◌-◌, ◌^◌, ◌≤◌, ◌<◌, ◌≡◌, Bool, ◌&&◌, ◌||◌, cond, List, [], ◌∷◌, ltb, leb, eqb, length, get_or, drop, Option, Some, None}
use Rattle.std.proofs.Math.Option.{Option as Maybe, none, some}
use Rattle.meaning.specs.Lists.{every}
use Rattle.meaning.specs.Limits.{max_types, cell_count}
use Rattle.tables.specs.Layouts.{floor_table, link_table}
use Rattle.text.specs.Names.{letters_in, type_name, floor_name, relationship_name, rule_name, object_name, link_name, first_event}
use Rattle.text.specs.Tokens.{dash, is_word, token_in}
use Rattle.text.specs.Bodies.{padded}
use Rattle.text.specs.Entries.{Entry, section_of, entry_words, count_of, cells_in, last_section, event_section, parent_word, event_fields}
use Rattle.tokens.specs.Tokens.{found_at}
use Rattle.tokens.specs.declared.Found.{Found}
use Rattle.tokens.specs.declared.Found.TheVariants.{Begin, Item, End}
use Rattle.tokens.specs.declared.ItemsFound.{ItemsFound}
use Rattle.line_reader.specs.declared.line.ItemAt.{ItemAt}
use Rattle.line_reader.specs.declared.line.Row.{Row}

-- a row's section and its words, zeros after them
abbrev pub row_with : ℕ → List ℕ → Row
row_with section words = record { section = section; words = padded 10 words }

unfoldable pub row_held : Maybe Entry → Option Row
row_held none = None
row_held (some e) = Some (row_with (section_of e) (entry_words e))

-- values that are words
unfoldable pub words_held : List ℕ → Option (List ℕ)
words_held values = cond (every is_word values) (Some values) None

-- ---- rows by the items that are held: how many, and their values, zeros after them

abbrev pub value_at : ItemsFound → ℕ → ℕ
value_at items k = get_or items.values k 0

abbrev pub row_when : Bool → ℕ → List ℕ → Option Row
row_when fits section words = cond fits (Some (row_with section words)) None

unfoldable pub type_held : ItemsFound → ℕ → Option Row
type_held items types =
    row_when
    (eqb items.count 3 && (eqb (value_at items 0) types
    && ((ltb (value_at items 1) (2 ^ 31) || eqb (value_at items 1) dash) && is_word (value_at items 2))))
    type_name (parent_word (value_at items 1) ∷ value_at items 2 ∷ [])

unfoldable pub relationship_held : ItemsFound → ℕ → Option Row
relationship_held items relationships =
    row_when (eqb items.count 3 && (eqb (value_at items 0) relationships && every is_word items.values))
    relationship_name (value_at items 1 ∷ value_at items 2 ∷ [])

unfoldable pub object_held : ItemsFound → ℕ → List ℕ → Option Row
object_held items types cells =
    row_when
    (leb 2 items.count && (every is_word items.values && (ltb (value_at items 1) types
    && (leb (get_or cells (value_at items 1) 0) cell_count && eqb items.count (2 + get_or cells (value_at items 1) 0)))))
    object_name items.values

-- a floor or a link
unfoldable pub plain_held : ItemsFound → ℕ → ℕ → Option Row
plain_held items section width = row_when (eqb items.count width && every is_word items.values) section items.values

unfoldable pub event_held : ItemsFound → ℕ → Option Row
event_held items kind =
    row_when (ltb kind 7 && (eqb items.count (event_fields kind) && every is_word items.values))
    event_section (kind ∷ value_at items 0 ∷ value_at items 1 ∷ value_at items 2 ∷ [])

-- a line without an inner bracket, by its name
unfoldable pub flat_held : ItemsFound → ℕ → ℕ → ℕ → List ℕ → Option Row
flat_held items name types relationships cells =
    cond (eqb name type_name) (type_held items types)
    (cond (eqb name floor_name) (plain_held items floor_name floor_table.width)
    (cond (eqb name relationship_name) (relationship_held items relationships)
    (cond (eqb name object_name) (object_held items types cells)
    (cond (eqb name link_name) (plain_held items link_name link_table.width)
    (cond (leb first_event name) (event_held items (name - first_event)) None)))))

-- an item that was found; none elsewhere
abbrev pub item_of : Option Found → Option ItemAt
item_of (Some (Item value next)) = Some (record { value = value; next = next })
item_of (Some (Begin name next)) = None
item_of (Some (End next)) = None
item_of None = None

-- the place after an item, 0 where there is none
abbrev pub next_of : Option ItemAt → ℕ
next_of (Some i) = i.next
next_of None = 0

abbrev pub next_after : List ℕ → ℕ → ℕ
next_after line at = next_of (item_of (found_at at (token_in (drop at line))))

-- where the body of a rule's line starts: after its name, its number and its context
unfoldable pub body_place : List ℕ → ℕ
body_place line = next_after line (next_after line (1 + length (letters_in (drop 1 line))))

-- ---- the lines before

-- How many types, relationships and rules there are before a line, the types' cells, and the section of the line before it.
pub record Follows (before : List Entry) (types relationships rules : ℕ) (cells : List ℕ) (section : ℕ) : Type 0 where
  pub types_are : types ≡ count_of type_name before
  pub relationships_are : relationships ≡ count_of relationship_name before
  pub rules_are : rules ≡ count_of rule_name before
  pub types_few : types ≤ max_types
  pub cells_are : (t : ℕ) → t < types → get_or cells t 0 ≡ cells_in before t
  pub section_is : section ≡ last_section 0 before
