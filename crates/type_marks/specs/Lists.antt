-- What a form lists by a set of directions, and the marks of it.
use Rattle.std.specs.Prelude.{ℕ, Bool, true, false, cond, List, [], ◌∷◌, ◌++◌, eqb}
use Rattle.meaning.specs.Schema.{Relationship, Schema}
use Rattle.meaning.specs.Forms.{variable}
use Rattle.meaning.specs.Reach.{Direction}
use Rattle.meaning.specs.EventList.{EventType, insert_of, set_of, special_of, where_parent, role_lists, all_lists, kind_lists, lists}
use Rattle.tables.specs.Bodies.{Part, part}
use Rattle.directions.specs.Sets.{some_of}
use Rattle.typing.specs.Types.{member_of}
use Rattle.quietness.specs.declared.quiet.Still.{Still}
use Rattle.type_marks.specs.Marks.{marked}

-- of a form of any sort
unfoldable pub part_lists : Schema → Part → List ℕ → Direction → List EventType
part_lists S (part s f) ts d = lists S f ts d

-- some direction of the set lists the event type at the place
abbrev pub marked_by : ℕ → (Direction → List EventType) → ℕ → Bool
marked_by set listed place = some_of set (λ d. marked (listed d) place)

abbrev pub part_marks : Schema → Part → List ℕ → ℕ → ℕ → Bool
part_marks S p ts set place = marked_by set (part_lists S p ts) place

-- what moves all objects of a type, or the kind of one
abbrev pub type_lists : Schema → Bool → ℕ → Direction → List EventType
type_lists S true t d = all_lists S t d
type_lists S false t d = kind_lists S t d

-- what brings an object into a context type, each unless it is still
abbrev pub entry_lists : Schema → Still → ℕ → List EventType
entry_lists S still t = cond still.insert [] (insert_of t ∷ []) ++ cond still.special [] (where_parent S t (special_of t))

-- what a row without parts lists, by its code and its first two fields: kind, all, role and cell; a num lists nothing
unfoldable pub leaf_lists : Schema → List ℕ → ℕ → ℕ → ℕ → Direction → List EventType
leaf_lists S ts code x y d =
    cond (eqb code 13) (type_lists S false y d)
    (cond (eqb code 21) (type_lists S true x d)
    (cond (eqb code 20) (role_lists S y d)
    (cond (eqb code 15) (set_of (variable ts x) y ∷ []) [])))

-- a sum lists the sets of its members' cell besides; what is no sum lists nothing besides
abbrev pub sum_marks : List Relationship → ℕ → ℕ → ℕ → ℕ → Part → Bool
sum_marks relationships set place code x b = cond (eqb code 17) (marked_by set (λ d. set_of (member_of relationships b) x ∷ []) place) false
