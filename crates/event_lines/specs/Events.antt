-- The event list of a rule as it is printed: one line of the rule's number and the event types in the list's order, each as its event's name in the
-- text and the numbers that it names. `events 0 insert 1 set 1 0` says that rule 0 lists an insert of type 1 and a set of cell 0 at objects of type 1.
use Rattle.std.specs.Prelude.{ℕ, zero, suc, ◌+◌, ◌*◌, cond, eqb}
use mathlib.Core.List.{List, [], ◌∷◌, ◌++◌, flat_map}
use Rattle.meaning.specs.Reach.{inserts, deletes, sets, joins, parts, specials, generals, kind_place}
use Rattle.meaning.specs.EventList.{EventType, insert_of, delete_of, set_of, join_of, part_of, special_of, general_of}
use Rattle.rows.specs.Rows.{word_at, read_rows}
use Rattle.text.specs.Names.{name_of, first_event}
use Rattle.printing.specs.Lines.{spaced}

abbrev pub events_name : List ℕ
events_name = 101 ∷ 118 ∷ 101 ∷ 110 ∷ 116 ∷ 115 ∷ []  -- events

-- an event type after a space, by its kind's place and the numbers that it names
unfoldable pub kind_shown : ℕ → List ℕ → List ℕ
kind_shown kind ns = (32 ∷ name_of (first_event + kind)) ++ spaced ns

unfoldable pub event_shown : EventType → List ℕ
event_shown (insert_of t) = kind_shown (kind_place inserts) (t ∷ [])
event_shown (delete_of t) = kind_shown (kind_place deletes) (t ∷ [])
event_shown (set_of t k) = kind_shown (kind_place sets) (t ∷ k ∷ [])
event_shown (join_of r) = kind_shown (kind_place joins) (r ∷ [])
event_shown (part_of r) = kind_shown (kind_place parts) (r ∷ [])
event_shown (special_of t) = kind_shown (kind_place specials) (t ∷ [])
event_shown (general_of t) = kind_shown (kind_place generals) (t ∷ [])

unfoldable pub events_shown : List EventType → List ℕ
unfolding flat_map
events_shown = flat_map event_shown

unfoldable pub events_line : ℕ → List EventType → List ℕ
events_line rule es = events_name ++ spaced (rule ∷ []) ++ events_shown es ++ 10 ∷ []

-- a set names a cell too
unfoldable pub cell_shown : ℕ → ℕ → List ℕ
cell_shown kind cell = cond (eqb kind (kind_place sets)) (cell ∷ []) []

-- ---- "three 16-bit words each: place in that order from 0, type or relationship, cell or 0"

unfoldable pub event_type_of : ℕ → ℕ → ℕ → EventType
event_type_of zero x k = insert_of x
event_type_of (suc zero) x k = delete_of x
event_type_of (suc (suc zero)) x k = set_of x k
event_type_of (suc (suc (suc zero))) x k = join_of x
event_type_of (suc (suc (suc (suc zero)))) x k = part_of x
event_type_of (suc (suc (suc (suc (suc zero))))) x k = special_of x
event_type_of (suc (suc (suc (suc (suc (suc kind)))))) x k = general_of x

abbrev pub event_type_in : List ℕ → ℕ → EventType
event_type_in list i = event_type_of (word_at list 3 i 0) (word_at list 3 i 1) (word_at list 3 i 2)

-- the first event types of a list
abbrev pub event_types_in : List ℕ → ℕ → List EventType
event_types_in list count = read_rows (event_type_in list) count

-- bytes enough for the line of a rule with so many event types: the rule's number of 32 bits, the others of 16 bits
abbrev pub room_for_events : ℕ → ℕ
room_for_events count = 18 + 16 * count
