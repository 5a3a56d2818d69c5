-- What a search for an object or a link finds at the key's place, and what it means for the object.
use Prim.Native.Nat.{ℕ, ◌<◌}
use mathlib.Core.Path.{◌≡◌, sym, ap, ◌∙◌}
use mathlib.Core.Bool.{Bool, true, false}
use mathlib.Core.List.{List, [], ◌∷◌}
use mathlib.Core.Option.{none, some, map}
use lib.Dec.{T, eqb}
use mir.Facts.{eqb_yes}
use borrow.Author.Tests.{eq-eqb, ne_eqb}
use Rattle.meaning.specs.Lists.{holds}
use Rattle.meaning.specs.Schema.{ObjectType, Floor, under}
use Rattle.meaning.specs.Register.{Object, Link, object_key, link_key, same_link, object_at, is_under, has_link, object_fits, faulty_object, object_fault}
use Rattle.meaning.specs.Events.{link_of}
use Rattle.meaning.proofs.Order.{same_list_eq, rows_fit}
use Rattle.rows.specs.Rows.{read_rows}
use Rattle.keys.specs.Keys.{key_at, KeysAscend, LowerBound}
use Rattle.tables.specs.Columns.{object_row, link_row}
use Rattle.register.specs.Tables.{objects_with, links_with, ObjectsAscend, LinksAscend, object_place, link_place}
use Rattle.register.proofs.Hits.{first_row, any_row}
use Rattle.register.proofs.Places.{ordered, place_hit, place_missed}

-- ---- objects

pub object_keys : {n : ℕ} (objects : List ℕ) → ObjectsAscend n objects → KeysAscend (key_at objects 10 1) n
unfolding object_row
object_keys objects a i j l h = ordered object_key (object_row objects) _ a l h

module _ (objects : List ℕ) {n id r : ℕ} (b : LowerBound (key_at objects 10 1) n (id ∷ []) r) (a : ObjectsAscend n objects) where
  bound : LowerBound (λ i. object_key (object_row objects i)) n (id ∷ []) r
  unfolding object_row
  bound = b

  abbrev hit : Object → Bool
  hit o = eqb o.id id

  exact : (o : Object) → T (hit o) → object_key o ≡ id ∷ []
  exact o t = ap (λ x. x ∷ []) (eqb_yes t)

  pub object_found : r < n → (object_row objects r).id ≡ id → object_place n objects id ≡ some r
  object_found h e = place_hit object_key (object_row objects) n a bound hit exact h (eq-eqb _ _ e)

  pub object_missing : (r < n → (object_row objects r).id ≡ id → ⊥) → object_place n objects id ≡ none
  object_missing d = place_missed object_key (object_row objects) n a bound hit exact (λ h. ne_eqb _ _ (d h))

-- ---- links

pub link_keys : {n : ℕ} (links : List ℕ) → LinksAscend n links → KeysAscend (key_at links 3 3) n
unfolding link_row
link_keys links a i j l h = ordered link_key (link_row links) _ a l h

module _ (links : List ℕ) {n x y z r : ℕ} (b : LowerBound (key_at links 3 3) n (x ∷ y ∷ z ∷ []) r) (a : LinksAscend n links) where
  link_bound : LowerBound (λ i. link_key (link_row links i)) n (x ∷ y ∷ z ∷ []) r
  unfolding link_row
  link_bound = b

  exact_link : (l : Link) → T (same_link (link_of x y z) l) → link_key l ≡ x ∷ y ∷ z ∷ []
  exact_link l t = sym (same_list_eq (x ∷ y ∷ z ∷ []) (link_key l) t)

  pub link_found : r < n → same_link (link_of x y z) (link_row links r) ≡ true → link_place n links (link_of x y z) ≡ some r
  link_found h e = place_hit link_key (link_row links) n a link_bound (same_link (link_of x y z)) exact_link h e

  pub link_missing : (r < n → same_link (link_of x y z) (link_row links r) ≡ false) → link_place n links (link_of x y z) ≡ none
  link_missing d = place_missed link_key (link_row links) n a link_bound (same_link (link_of x y z)) exact_link d

-- ---- what a row says of the register

pub object_row_lem : (n : ℕ) (objects : List ℕ) (ls : List Link) (id : ℕ) → object_at (objects_with n objects ls) id ≡ map (object_row objects) (object_place n objects id)
unfolding object_at
object_row_lem n objects ls id = first_row (λ o. eqb o.id id) (object_row objects) n

module _ (types : List ObjectType) (n : ℕ) (objects : List ℕ) (ls : List Link) (id t : ℕ) where
  under_row : is_under types (objects_with n objects ls) id t ≡ holds (λ o. under types o.type t) (map (object_row objects) (object_place n objects id))
  unfolding is_under
  under_row = ap (holds (λ o. under types o.type t)) (object_row_lem n objects ls id)

  pub under_found : {i : ℕ} → object_place n objects id ≡ some i → is_under types (objects_with n objects ls) id t ≡ under types (object_row objects i).type t
  under_found e = under_row ∙ ap (λ o. holds (λ o. under types o.type t) (map (object_row objects) o)) e

  pub under_missing : object_place n objects id ≡ none → is_under types (objects_with n objects ls) id t ≡ false
  under_missing e = under_row ∙ ap (λ o. holds (λ o. under types o.type t) (map (object_row objects) o)) e

-- a link is there where it has a row
pub link_there : (os : List Object) (n : ℕ) (links : List ℕ) (l : Link) → has_link (links_with os n links) l ≡ holds (λ i. true) (link_place n links l)
unfolding has_link
link_there os n links l = any_row (same_link l) (link_row links) n

-- objects of which none is faulty ascend
pub objects_ascend : (types : List ObjectType) (floors : List Floor) (n : ℕ) (objects : List ℕ) (ls : List Link) → object_fault types floors (objects_with n objects ls) ≡ none → ObjectsAscend n objects
unfolding object_fault faulty_object
objects_ascend types floors n objects ls e = (rows_fit object_key (object_fits types floors) (read_rows (object_row objects) n) e).0
