-- Document 01, "Schema, register, batch": types, floors (Req 02), relationships and roles; refusal 3.
use Rattle.std.specs.Prelude.{ℕ, zero, suc, ◌/◌, ◌%◌, Bool, true, ◌&&◌, ◌||◌, not, cond, List, [], ◌∷◌, ltb, leb, eqb, length, get_or}
use Rattle.std.proofs.Math.Option.{Option, none}
use Rattle.meaning.specs.Lists.{any, holds, ascends, first_fault}
use Rattle.meaning.specs.Limits.{cell_count}

-- "Type: number .., a parent of lower number or none, and 0 to 8 cells". Its number is its place in the list.
pub record ObjectType : Type 0 where
  pub parent : Option ℕ
  pub cells : ℕ

-- "Relationship: number .., source and target type". Its number is its place in the list.
pub record Relationship : Type 0 where
  pub source : ℕ
  pub target : ℕ

-- Req 02: "A line `(floor t k)` .. says that cell k of t and of types under it is at least 0."
pub record Floor : Type 0 where
  pub type : ℕ
  pub cell : ℕ

pub record Schema : Type 0 where
  pub types : List ObjectType
  pub floors : List Floor
  pub relationships : List Relationship

unfoldable pub known_type : List ObjectType → ℕ → Bool
known_type types t = ltb t (length types)

unfoldable pub known_relationship : List Relationship → ℕ → Bool
known_relationship relationships r = ltb r (length relationships)

-- A type that the schema lacks has no parent and no cell.
unfoldable pub type_at : List ObjectType → ℕ → ObjectType
type_at types t = get_or types t (record { parent = none; cells = 0 })

unfoldable pub parent_of : List ObjectType → ℕ → Option ℕ
parent_of types t = (type_at types t).parent

unfoldable pub cells_of : List ObjectType → ℕ → ℕ
cells_of types t = (type_at types t).cells

unfoldable pub has_parent : List ObjectType → ℕ → Bool
has_parent types t = holds (λ p. true) (parent_of types t)

-- t is u, or comes to u in at most n steps from a type to its parent
unfoldable pub climbs : List ObjectType → ℕ → ℕ → ℕ → Bool
climbs types zero t u = eqb t u
climbs types (suc n) t u = eqb t u || holds (λ p. climbs types n p u) (parent_of types t)

-- "A type is *under* itself, its parent and so on up." A parent's number is lower, so there are at most t steps from t.
unfoldable pub under : List ObjectType → ℕ → ℕ → Bool
under types t u = climbs types t t u

-- cell k of an object of type t is at least 0: t, or a type above it, has the floor
unfoldable pub floored : List ObjectType → List Floor → ℕ → ℕ → Bool
floored types floors t k = any (λ f. under types t f.type && eqb f.cell k) floors

-- "Role 2r goes from source to target of relationship r, role 2r + 1 back."
abbrev pub relationship_of : ℕ → ℕ
relationship_of role = role / 2

abbrev pub forward : ℕ → Bool
forward role = eqb (role % 2) 0

unfoldable pub known_role : List Relationship → ℕ → Bool
known_role relationships role = known_relationship relationships (relationship_of role)

unfoldable pub relationship_at : List Relationship → ℕ → Relationship
relationship_at relationships r = get_or relationships r (record { source = 0; target = 0 })

unfoldable pub source_type : List Relationship → ℕ → ℕ
source_type relationships r = (relationship_at relationships r).source

unfoldable pub target_type : List Relationship → ℕ → ℕ
target_type relationships r = (relationship_at relationships r).target

-- the type at which a role starts, and the one to which it leads
unfoldable pub near_type : List Relationship → ℕ → ℕ
near_type relationships role =
    cond (forward role) (source_type relationships (relationship_of role)) (target_type relationships (relationship_of role))

unfoldable pub far_type : List Relationship → ℕ → ℕ
far_type relationships role =
    cond (forward role) (target_type relationships (relationship_of role)) (source_type relationships (relationship_of role))

-- Refusal 3, "parent, cells or end type wrong".
-- "a parent of lower number or none, and 0 to 8 cells, at least as many as its parent's"
unfoldable pub parent_fits : List ObjectType → ℕ → ObjectType → Bool
parent_fits types n t = not (holds (λ p. not (ltb p n && leb (cells_of types p) t.cells)) t.parent)

unfoldable pub faulty_type : List ObjectType → ℕ → Option ObjectType → ObjectType → Bool
faulty_type types n previous t = not (parent_fits types n t && leb t.cells cell_count)

unfoldable pub faulty_relationship : List ObjectType → ℕ → Option Relationship → Relationship → Bool
faulty_relationship types n previous r = not (known_type types r.source && known_type types r.target)

-- floors "ascending", none twice
abbrev pub floor_key : Floor → List ℕ
floor_key f = f.type ∷ f.cell ∷ []

-- "a floor out of order, twice or on an unknown cell": a type that the schema lacks has no cell
unfoldable pub faulty_floor : List ObjectType → ℕ → Option Floor → Floor → Bool
faulty_floor types n previous f = not (ascends floor_key previous f && ltb f.cell (cells_of types f.type))

-- The place of the first faulty type, that of the first faulty floor, "met after the types and before the relationships", and that of the
-- first faulty relationship: "any faulty type comes before a relationship".
unfoldable pub type_fault : List ObjectType → Option ℕ
type_fault types = first_fault (faulty_type types) types

unfoldable pub floor_fault : Schema → Option ℕ
floor_fault S = first_fault (faulty_floor S.types) S.floors

unfoldable pub relationship_fault : Schema → Option ℕ
relationship_fault S = first_fault (faulty_relationship S.types) S.relationships
