-- What the check of a rule asks of its body's forms.
use Rattle.std.specs.Prelude.{ℕ, ◌<◌, ◌≡◌, Bool, true, false, ◌&&◌, cond, List, ltb, leb, eqb, length, get_or}
use Rattle.meaning.specs.Schema.{Relationship, Schema, known_type, known_role, cells_of, under, floored, near_type}
use Rattle.meaning.specs.Forms.{variable, member_type, well_typed}
use Rattle.tables.specs.Bodies.{BodyRow, Part, part, as_collection, ending}

-- of a form of any sort: whether it is well typed, and the type of its members
unfoldable pub typed_part : Schema → List ℕ → Part → Bool
typed_part S types (part s f) = well_typed S types f

unfoldable pub member_of : List Relationship → Part → ℕ
member_of relationships p = member_type relationships (as_collection p)

-- a sum names a cell of its members; what is no sum names none
abbrev pub summed : Schema → ℕ → ℕ → Part → Bool
summed S code x p = cond (eqb code 17) (ltb x (cells_of S.types (member_of S.relationships p))) true

-- a sum is over a floored cell; what is no sum is over none
abbrev pub floored_over : Schema → ℕ → Part → Bool
floored_over S x p = floored S.types S.floors (member_of S.relationships p) x

abbrev pub floored_at : Schema → ℕ → ℕ → Part → Bool
floored_at S code x p = eqb code 17 && floored_over S x p

-- of the first e rows of a body, the marks say which are sums over a floored cell
pub record FlooredRows (S : Schema) (rows : ℕ → BodyRow) (e : ℕ) (floored : List Bool) : Type 0 where
  pub each : (k : ℕ) → k < e → get_or floored k false ≡ floored_at S (rows k).code (rows k).x (ending rows k).form

-- a row without parts, by its code and its first two fields: num, all, and then kind, cell and role, which name a variable
unfoldable pub typed_leaf : Schema → List ℕ → ℕ → ℕ → ℕ → Bool
typed_leaf S types code x y =
    cond (eqb code 14) true
    (cond (eqb code 21) (known_type S.types x)
    (cond (leb (length types) x) false
    (cond (eqb code 13) (known_type S.types y)
    (cond (eqb code 15) (ltb y (cells_of S.types (variable types x)))
    (known_role S.relationships y && under S.types (variable types x) (near_type S.relationships y))))))
