-- Document 01, "Schema, register, batch": objects and links; refusal 5.
use Rattle.std.specs.Prelude.{ℕ, Bool, true, ◌&&◌, not, cond, List, [], ◌∷◌, map, eqb, length, get_or, drop, ℤ, pos}
use Rattle.std.proofs.Math.Option.{Option, none, some}
use Rattle.std.specs.Int.Signed.{le_z}
use Rattle.meaning.specs.Lists.{any, every, keep, first, holds, ascends, same_list, first_fault}
use Rattle.meaning.specs.Limits.{cell_count, valid_id, fits_word}
use Rattle.meaning.specs.Schema.{ObjectType, Floor, Schema, known_type, known_relationship, cells_of, under, relationship_of, forward, source_type, target_type}

-- "Object: id .., type, eight signed 32-bit cells"; ids as Req 07 has them (`Limits.max_id`)
pub record Object : Type 0 where
  pub id : ℕ
  pub type : ℕ
  pub cells : List ℤ

-- "Link: relationship, source id, target id"
pub record Link : Type 0 where
  pub relationship : ℕ
  pub source : ℕ
  pub target : ℕ

pub record Register : Type 0 where
  pub objects : List Object
  pub links : List Link

-- "ids ascending, none twice"; links "ascending in that order, none twice"
abbrev pub object_key : Object → List ℕ
object_key o = o.id ∷ []

abbrev pub link_key : Link → List ℕ
link_key l = l.relationship ∷ l.source ∷ l.target ∷ []

-- ---- objects

unfoldable pub object_at : Register → ℕ → Option Object
object_at g id = first (λ o. eqb o.id id) g.objects

unfoldable pub present : Register → ℕ → Bool
present g id = holds (λ o. true) (object_at g id)

-- the object is there, and its type is under t
unfoldable pub is_under : List ObjectType → Register → ℕ → ℕ → Bool
is_under types g id t = holds (λ o. under types o.type t) (object_at g id)

-- the value of cell k of an object; 0 where there is none
unfoldable pub cell_at : Register → ℕ → ℕ → ℤ
cell_at g id k = elim (object_at g id) [ none ↦ pos 0 | some o ↦ get_or o.cells k (pos 0) ]

-- the ids of the objects under t, ascending
unfoldable pub instances : List ObjectType → Register → ℕ → List ℕ
instances types g t = map (λ (o : Object). o.id) (keep (λ o. under types o.type t) g.objects)

-- ---- links

abbrev pub same_link : Link → Link → Bool
same_link k l = same_list (link_key k) (link_key l)

unfoldable pub has_link : Register → Link → Bool
has_link g l = any (same_link l) g.links

-- the end at which a role starts, and the one to which it leads
abbrev pub near_end : ℕ → Link → ℕ
near_end role l = cond (forward role) l.source l.target

abbrev pub far_end : ℕ → Link → ℕ
far_end role l = cond (forward role) l.target l.source

-- the link is one of the role from object u
abbrev pub starts_at : ℕ → ℕ → Link → Bool
starts_at role u l = eqb l.relationship (relationship_of role) && eqb (near_end role l) u

-- the ids at the far end of a role from object u, ascending
unfoldable pub far_ends : Register → ℕ → ℕ → List ℕ
far_ends g role u = map (far_end role) (keep (starts_at role u) g.links)

-- ---- refusal 5, "an object or link that breaks the limits listed above"

-- "cells its type lacks are 0"
abbrev pub is_zero : ℤ → Bool
is_zero z = le_z z (pos 0) && le_z (pos 0) z

unfoldable pub cells_fit : List ObjectType → Object → Bool
cells_fit types o = eqb (length o.cells) cell_count && every fits_word o.cells && every is_zero (drop (cells_of types o.type) o.cells)

-- "A register below a floor is refusal 5" (Req 02): some floor of the type, or of one above it, is of a cell below 0
abbrev pub negative : ℤ → Bool
negative z = not (le_z (pos 0) z)

unfoldable pub below_floor : List ObjectType → List Floor → ℕ → List ℤ → Bool
below_floor types floors t cells = any (λ f. under types t f.type && negative (get_or cells f.cell (pos 0))) floors

unfoldable pub object_fits : List ObjectType → List Floor → Object → Bool
object_fits types floors o =
    valid_id o.id && known_type types o.type && cells_fit types o && not (below_floor types floors o.type o.cells)

unfoldable pub faulty_object : List ObjectType → List Floor → ℕ → Option Object → Object → Bool
faulty_object types floors n previous o = not (ascends object_key previous o && object_fits types floors o)

-- "both objects present and under the end types"
unfoldable pub link_fits : Schema → Register → Link → Bool
link_fits S g l =
    known_relationship S.relationships l.relationship
    && is_under S.types g l.source (source_type S.relationships l.relationship)
    && is_under S.types g l.target (target_type S.relationships l.relationship)

unfoldable pub faulty_link : Schema → Register → ℕ → Option Link → Link → Bool
faulty_link S g n previous l = not (ascends link_key previous l && link_fits S g l)

-- The row of the first faulty object, and that of the first faulty link: "any faulty object [comes] before a link". Of two
-- neighbours out of order the later is faulty.
unfoldable pub object_fault : List ObjectType → List Floor → Register → Option ℕ
object_fault types floors g = first_fault (faulty_object types floors) g.objects

unfoldable pub link_fault : Schema → Register → Option ℕ
link_fault S g = first_fault (faulty_link S g) g.links
