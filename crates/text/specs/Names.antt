-- The names of the text: sections in their order, events in document 01's order, then the operators by their codes.
use Rattle.std.specs.Prelude.{ℕ, suc, Bool, ◌&&◌, cond, List, [], ◌∷◌, map, leb, get_or}
use Rattle.std.proofs.Math.Option.{Option, none, some}
use Rattle.meaning.specs.Lists.{same_list}
use Rattle.tables.specs.Layouts.{type_table, floor_table, relationship_table, rule_table, object_table, link_table, event_table}
use Rattle.tables.specs.Codes.{operators, operator_name}
use Rattle.lexical.specs.Runs.{run}

-- each name as its bytes
unfoldable pub names : List (List ℕ)
unfolding operators operator_name
names =
    (116 ∷ 121 ∷ 112 ∷ 101 ∷ [])  -- type
    ∷ (102 ∷ 108 ∷ 111 ∷ 111 ∷ 114 ∷ [])  -- floor
    ∷ (114 ∷ 101 ∷ 108 ∷ [])  -- rel
    ∷ (114 ∷ 117 ∷ 108 ∷ 101 ∷ [])  -- rule
    ∷ (101 ∷ 110 ∷ 116 ∷ [])  -- ent
    ∷ (108 ∷ 105 ∷ 110 ∷ 107 ∷ [])  -- link
    ∷ (105 ∷ 110 ∷ 115 ∷ 101 ∷ 114 ∷ 116 ∷ [])  -- insert
    ∷ (100 ∷ 101 ∷ 108 ∷ 101 ∷ 116 ∷ 101 ∷ [])  -- delete
    ∷ (115 ∷ 101 ∷ 116 ∷ [])  -- set
    ∷ (106 ∷ 111 ∷ 105 ∷ 110 ∷ [])  -- join
    ∷ (112 ∷ 97 ∷ 114 ∷ 116 ∷ [])  -- part
    ∷ (115 ∷ 112 ∷ 101 ∷ 99 ∷ 105 ∷ 97 ∷ 108 ∷ [])  -- special
    ∷ (103 ∷ 101 ∷ 110 ∷ 101 ∷ 114 ∷ 97 ∷ 108 ∷ [])  -- general
    ∷ map operator_name operators

-- the places of the sections' names, which are their numbers, and where the events' and the operators' names start
abbrev pub type_name : ℕ
type_name = type_table.section

abbrev pub floor_name : ℕ
floor_name = floor_table.section

abbrev pub relationship_name : ℕ
relationship_name = relationship_table.section

abbrev pub rule_name : ℕ
rule_name = rule_table.section

abbrev pub object_name : ℕ
object_name = object_table.section

abbrev pub link_name : ℕ
link_name = link_table.section

abbrev pub first_event : ℕ
first_event = event_table.section

abbrev pub first_operator : ℕ
first_operator = 13

abbrev pub name_count : ℕ
name_count = 36

abbrev pub name_of : ℕ → List ℕ
name_of k = get_or names k []

-- a letter: byte 97 to 122
abbrev pub is_letter : ℕ → Bool
is_letter b = leb 97 b && leb b 122

-- the letters at the start of a text
abbrev pub letters_in : List ℕ → List ℕ
letters_in l = run is_letter l

-- which of the names it is, from k on
abbrev pub place_from : List ℕ → ℕ → List (List ℕ) → Option ℕ
place_from name k [] = none
place_from name k (n ∷ ns) = cond (same_list name n) (some k) (place_from name (suc k) ns)

unfoldable pub place_of : List ℕ → Option ℕ
place_of name = place_from name 0 names
