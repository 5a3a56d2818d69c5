-- Walks over the members of a collection. A walk holds one word: along a role 1 + the slot that comes next, and 0 at the end; over all
-- objects of a type the row from which it goes on; over a select the word of a walk over its collection.
use Rattle.std.specs.Prelude.{ℕ, zero, suc, ◌+◌, ◌-◌, ◌<◌, ◌≡◌, Bool, true, false, cond, List, [], ◌∷◌, map, T, leb, ltb, get_or}
use Rattle.std.proofs.Math.Option.{Option, none, some}
use Rattle.meaning.specs.Lists.{keep}
use Rattle.meaning.specs.Schema.{ObjectType, under}
use Rattle.meaning.specs.Register.{Object}
use Rattle.meaning.specs.Forms.{collection, Form, role, all, select}
use Rattle.meaning.specs.Meaning.{meaning}
use Rattle.rows.specs.Rows.{rows_from}
use Rattle.tables.specs.Bodies.{as_collection}
use Rattle.tables.specs.Columns.{object_row}
use Rattle.link_index.specs.Slots.{far_id, Place}
use Rattle.walks.specs.Site.{Site, types_at, register_at, form_at, id_in, ids_of}
use Rattle.std.specs.Prelude as Std
use Rattle.std.specs.Prelude.{Some, None}
use Rattle.walks.specs.declared.Member.{Member}

-- ---- what a walk has left

-- the id at which a walk goes on, if it does
unfoldable pub id_from : Site → Form collection → ℕ → Option ℕ
id_from w (role v r) word = far_id w.objects w.index word
id_from w (all t) word = cond (ltb word w.counts.objects) (some (id_in w.objects word)) none
id_from w (select c b) word = id_from w c word

abbrev pub is_from : Option ℕ → ℕ → Bool
is_from none y = false
is_from (some x) y = leb x y

-- the members, by the ids of the variables, that a walk has left from its word on
unfoldable pub left_in : Site → Form collection → List ℕ → ℕ → List ℕ
left_in w f ids word = keep (is_from (id_from w f word)) (meaning (types_at w) (register_at w) f ids)

-- the ids of the objects under t from a row on
abbrev pub instances_from : List ObjectType → List ℕ → ℕ → ℕ → ℕ → List ℕ
instances_from types objects count t row =
    map (λ (o : Object). o.id) (keep (λ o. under types o.type t) (rows_from (object_row objects) row (count - row)))

-- ---- words that a walk may hold

-- along a role, a slot of a link of that role from the variable's object
unfoldable pub StandsIn : Site → Form collection → List ℕ → ℕ → Type 0
StandsIn w (role v r) vars word =
    (s : ℕ) → word ≡ suc s → Place w.counts.objects w.objects w.counts.links w.links r (get_or vars v 0) s
StandsIn w (all t) vars word = T true
StandsIn w (select c b) vars word = StandsIn w c vars word

abbrev pub Anywhere : ℕ → Type 0
Anywhere word = T true

-- ---- beginning and steps

-- a walk begins with every member left
pub record BegunIn (w : Site) (f : Form collection) (vars : List ℕ) (depth word : ℕ) : Type 0 where
  pub all_left : left_in w f (ids_of w depth vars) word ≡ meaning (types_at w) (register_at w) f (ids_of w depth vars)
  pub stands : StandsIn w f vars word

-- a step to the member in a row: it is the first that was left, and what the walk then has left are the others
pub record Went (objects : List ℕ) (count : ℕ) (left : ℕ → List ℕ) (May : ℕ → Type 0) (word row on : ℕ) : Type 0 where
  pub member : left word ≡ id_in objects row ∷ left on
  pub there : row < count
  pub stands : May on

-- a step of a walk, by what each word leaves and which words it may hold
pub record Stepped (objects : List ℕ) (count : ℕ) (left : ℕ → List ℕ) (May : ℕ → Type 0) (word : ℕ) (s : Std.Option Member) : Type 0 where
  pub done : s ≡ None → left word ≡ []
  pub went : (m : Member) → s ≡ Some m → Went objects count left May word m.row m.next

abbrev pub WalkedIn : Site → Form collection → List ℕ → ℕ → ℕ → Std.Option Member → Type 0
WalkedIn w f vars depth word s = Stepped w.objects w.counts.objects (left_in w f (ids_of w depth vars)) (StandsIn w f vars) word s

-- the step along a role: the far row of the slot, and the slot after it
abbrev pub far_step : List ℕ → ℕ → Std.Option Member
far_step index zero = None
far_step index (suc s) = Some (record { row = get_or index s 0; next = get_or index (8192 + s) 0 })

-- ---- the same of the collection that ends before row e

abbrev pub collection_at : Site → ℕ → Form collection
collection_at w e = as_collection (form_at w e)

abbrev pub left_at : Site → ℕ → List ℕ → ℕ → ℕ → List ℕ
left_at w e vars depth word = left_in w (collection_at w e) (ids_of w depth vars) word

abbrev pub Stands : Site → ℕ → List ℕ → ℕ → Type 0
Stands w e vars word = StandsIn w (collection_at w e) vars word

abbrev pub Begun : Site → ℕ → List ℕ → ℕ → ℕ → Type 0
Begun w e vars depth word = BegunIn w (collection_at w e) vars depth word

abbrev pub Walked : Site → ℕ → List ℕ → ℕ → ℕ → Std.Option Member → Type 0
Walked w e vars depth word s = WalkedIn w (collection_at w e) vars depth word s
