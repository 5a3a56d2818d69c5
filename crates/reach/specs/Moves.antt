-- Document 01, "Reach rules", of the form that ends before row e of a rule's body, at the ids of the variables' rows: whether some direction of a set
-- moves it.
use Rattle.std.specs.Prelude.{ℕ, Bool, false, cond, List, eqb}
use Rattle.meaning.specs.Lists.{any}
use Rattle.meaning.specs.Forms.{bind, variable}
use Rattle.meaning.specs.Reach.{Change, Direction, role_moves, all_moves, cell_moves, kind_moves, moves}
use Rattle.tables.specs.Bodies.{Part, part}
use Rattle.directions.specs.Sets.{some_of}
use Rattle.walks.specs.Site.{Site, form_at, ids_of}

-- a form of any sort moves in a direction
unfoldable pub part_moves : Change → Part → List ℕ → Direction → Bool
part_moves c (part s f) ids d = moves c f ids d

abbrev pub moved_by : Change → Part → List ℕ → ℕ → Bool
moved_by c p ids set = some_of set (part_moves c p ids)

-- a row without parts, by its code and its first two fields: kind, all, role and cell; a num never moves
unfoldable pub leaf_moves : Change → List ℕ → ℕ → ℕ → ℕ → Direction → Bool
leaf_moves c ids code x y d =
    cond (eqb code 13) (kind_moves c (variable ids x) y d)
    (cond (eqb code 21) (all_moves c x d)
    (cond (eqb code 20) (role_moves c y (variable ids x) d)
    (cond (eqb code 15) (cell_moves c (variable ids x) y) false)))

unfoldable pub moves_at : Change → Site → ℕ → List ℕ → ℕ → ℕ → Bool
moves_at c w e vars depth set = moved_by c (form_at w e) (ids_of w depth vars) set

-- the form that ends before row e moves at a member of a collection, by the members' ids
abbrev pub moves_over : Change → Site → ℕ → List ℕ → ℕ → List ℕ → ℕ → Bool
moves_over c w e vars depth members set = any (λ m. moved_by c (form_at w e) (bind (ids_of w depth vars) m) set) members
