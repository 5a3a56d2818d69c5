-- Document 01, "Events" and "After a batch": what each event does, refusals 7 to 13 and 15, and the register after a batch.
use Rattle.std.specs.Prelude.{ℕ, suc, ◌-◌, min, Bool, ◌&&◌, ◌||◌, not, cond, List, [], ◌∷◌, ◌++◌, map, ltb, leb, eqb, length, take, replicate, set as replace_at, ℤ, pos}
use Rattle.std.proofs.Math.Option
use Rattle.std.proofs.Math.Option.{Option, none, some}
use Rattle.meaning.specs.Lists.{any, keep, holds, first_of, put_in_order}
use Rattle.meaning.specs.Limits.{max_objects, max_links, cell_count, valid_id, fits_word}
use Rattle.meaning.specs.Schema.{ObjectType, Schema, known_type, known_relationship, cells_of, under, floored, source_type, target_type}
use Rattle.meaning.specs.Register.{Object, Link, Register, object_key, link_key, object_at, present, is_under, same_link, has_link, negative, below_floor}

-- "Events: `insert id t` .., `delete id`, `set id k v`, `join r a b`, `part r a b`, `special id t` .., `general id t` .."
pub data Event : Type 0 where
  insert : (id type : ℕ) → Event
  delete : (id : ℕ) → Event
  set : (id cell : ℕ) (value : ℤ) → Event
  join : (relationship source target : ℕ) → Event
  part : (relationship source target : ℕ) → Event
  special : (id type : ℕ) → Event
  general : (id type : ℕ) → Event

-- how many rows are lent for the register's tables, and how many words for the list of pairs
pub record Lent : Type 0 where
  pub objects : ℕ
  pub links : ℕ
  pub words : ℕ

-- ---- what an event does

abbrev pub link_of : ℕ → ℕ → ℕ → Link
link_of r a b = record { relationship = r; source = a; target = b }

-- "`insert id t` (cells 0)"
abbrev pub new_object : ℕ → ℕ → Object
new_object id t = record { id = id; type = t; cells = replicate cell_count (pos 0) }

-- "cells the new type lacks become 0": the first n cells, and zeros after them
abbrev pub cleared_from : ℕ → List ℤ → List ℤ
cleared_from n cells = take n cells ++ replicate (cell_count - n) (pos 0)

abbrev pub with_cell : ℕ → ℤ → Object → Object
with_cell k v o = record { id = o.id; type = o.type; cells = replace_at o.cells k v }

abbrev pub with_type : ℕ → Object → Object
with_type t o = record { id = o.id; type = t; cells = o.cells }

abbrev pub with_higher_type : List ObjectType → ℕ → Object → Object
with_higher_type types t o = record { id = o.id; type = t; cells = cleared_from (cells_of types t) o.cells }

-- the object of that id changed, every other as it was
abbrev pub amended : ℕ → (Object → Object) → Register → Register
amended id change g =
    record { objects = map (λ o. cond (eqb o.id id) (change o) o) g.objects; links = g.links }

-- the object is at an end of the link, or at both
abbrev pub ends_at : ℕ → Link → Bool
ends_at id l = eqb l.source id || eqb l.target id

-- "Insert adds the object, delete takes it out, set puts v in cell k, join adds the link, part takes it out, special and
-- general put type t, cells as above; nothing else changes." Of a delete Req 01 says besides: "`delete` removes the object's links itself."
unfoldable pub apply : Schema → Event → Register → Register
apply S (insert id t) g = record { objects = put_in_order object_key (new_object id t) g.objects; links = g.links }
apply S (delete id) g =
    record { objects = keep (λ o. not (eqb o.id id)) g.objects; links = keep (λ l. not (ends_at id l)) g.links }
apply S (set id k v) g = amended id (with_cell k v) g
apply S (join r a b) g = record { objects = g.objects; links = put_in_order link_key (link_of r a b) g.links }
apply S (part r a b) g = record { objects = g.objects; links = keep (λ l. not (same_link (link_of r a b) l)) g.links }
apply S (special id t) g = amended id (with_type t) g
apply S (general id t) g = amended id (with_higher_type S.types t) g

-- "The first event works on the register as lent, each other on what the one before it left. .. What the last one leaves is
-- the register after the batch, *the end* ..; without events it is the lent one."
unfoldable pub after : Schema → Register → List Event → Register
after S g [] = g
after S g (e ∷ es) = after S (apply S e g) es

-- ---- refusals 7 to 13, and 15

infix 20 ◌when◌
-- a refusal's number, and when it is met
pub data Check : Type 0 where
  ◌when◌ : ℕ → Bool → Check

-- the number of the first refusal of the list that is met
unfoldable pub first_met : List Check → Option ℕ
first_met [] = none
first_met ((n when met) ∷ checks) = cond met (some n) (first_met checks)

-- 12: "general out of a type a link needs"; by Req 01 it "remains for `general` alone". A link of an object to itself counts at both ends
unfoldable pub needs_type : Schema → ℕ → ℕ → Link → Bool
needs_type S id t l =
    (eqb l.source id && not (under S.types t (source_type S.relationships l.relationship)))
    || (eqb l.target id && not (under S.types t (target_type S.relationships l.relationship)))

unfoldable pub type_needed : Schema → Register → ℕ → ℕ → Bool
type_needed S g id t = any (needs_type S id t) g.links

-- the object's type is strictly above t, or strictly under it
unfoldable pub strictly_above : List ObjectType → Register → ℕ → ℕ → Bool
strictly_above types g id t = holds (λ o. under types t o.type && not (eqb t o.type)) (object_at g id)

unfoldable pub strictly_under : List ObjectType → Register → ℕ → ℕ → Bool
strictly_under types g id t = holds (λ o. under types o.type t && not (eqb t o.type)) (object_at g id)

-- 11: the object's type has cell k
unfoldable pub has_cell : List ObjectType → Register → ℕ → ℕ → Bool
has_cell types g id k = holds (λ o. ltb k (cells_of types o.type)) (object_at g id)

-- 15 (Req 02): "a set puts a floored cell below 0 or a special brings an object with such a cell under a floor"
unfoldable pub set_below : Schema → Register → ℕ → ℕ → ℤ → Bool
set_below S g id k v = negative v && holds (λ o. floored S.types S.floors o.type k) (object_at g id)

unfoldable pub brought_below : Schema → Register → ℕ → ℕ → Bool
brought_below S g id t = holds (λ o. below_floor S.types S.floors t o.cells) (object_at g id)

-- 7: "kind, type, relationship unknown; cell not 0 to 7; id not 1 to" 2,147,483,647 (Req 07): what the event says by itself is known
unfoldable pub known_event : Schema → Event → Bool
known_event S (insert id t) = valid_id id && known_type S.types t
known_event S (delete id) = valid_id id
known_event S (set id k v) = valid_id id && ltb k cell_count && fits_word v
known_event S (join r a b) = known_relationship S.relationships r && valid_id a && valid_id b
known_event S (part r a b) = known_relationship S.relationships r && valid_id a && valid_id b
known_event S (special id t) = valid_id id && known_type S.types t
known_event S (general id t) = valid_id id && known_type S.types t

-- The refusals that an event can meet, in the table's order; 15 is "checked after 11".
unfoldable pub checks : Schema → Lent → Register → Event → List Check
checks S lent g (insert id t) =
    (7 when not (known_event S (insert id t)))
    ∷ (9 when present g id)
    ∷ (13 when leb (min max_objects lent.objects) (length g.objects))
    ∷ []
checks S lent g (delete id) =
    (7 when not (known_event S (delete id)))
    ∷ (8 when not (present g id))
    ∷ []
checks S lent g (set id k v) =
    (7 when not (known_event S (set id k v)))
    ∷ (8 when not (present g id))
    ∷ (11 when not (has_cell S.types g id k))
    ∷ (15 when set_below S g id k v)
    ∷ []
checks S lent g (join r a b) =
    (7 when not (known_event S (join r a b)))
    ∷ (8 when not (present g a && present g b))
    ∷ (9 when has_link g (link_of r a b))
    ∷ (11 when not (is_under S.types g a (source_type S.relationships r) && is_under S.types g b (target_type S.relationships r)))
    ∷ (13 when leb (min max_links lent.links) (length g.links))
    ∷ []
checks S lent g (part r a b) =
    (7 when not (known_event S (part r a b)))
    ∷ (8 when not (present g a && present g b))
    ∷ (10 when not (has_link g (link_of r a b)))
    ∷ []
checks S lent g (special id t) =
    (7 when not (known_event S (special id t)))
    ∷ (8 when not (present g id))
    ∷ (11 when not (strictly_above S.types g id t))
    ∷ (15 when brought_below S g id t)
    ∷ []
checks S lent g (general id t) =
    (7 when not (known_event S (general id t)))
    ∷ (8 when not (present g id))
    ∷ (11 when not (strictly_under S.types g id t))
    ∷ (12 when type_needed S g id t)
    ∷ []

-- the number of the refusal that the event meets on register g, if any
unfoldable pub event_refusal : Schema → Lent → Register → Event → Option ℕ
event_refusal S lent g e = first_met (checks S lent g e)

-- "a refusal gives number and place"
pub record Refusal : Type 0 where
  pub number : ℕ
  pub place : ℕ

-- "its refusals are met there"; "the first faulty event decides". n is the first event's number.
unfoldable pub refusal_from : Schema → Lent → ℕ → Register → List Event → Option Refusal
refusal_from S lent n g [] = none
refusal_from S lent n g (e ∷ es) =
    let rest = refusal_from S lent (suc n) (apply S e g) es in
    first_of (Option.map (λ number. record { number = number; place = n }) (event_refusal S lent g e)) rest

unfoldable pub batch_refusal : Schema → Lent → Register → List Event → Option Refusal
batch_refusal S lent g es = refusal_from S lent 0 g es
