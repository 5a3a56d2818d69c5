-- The leaves of the reach rules, by what is asked of the events that name an object.
use Prim.Native.Nat.{ℕ, ◌<◌}
use mathlib.Core.Path.{◌≡◌, refl, sym, ap, ap₂, ◌∙◌}
use mathlib.Core.Bool.{Bool, true, false, ◌&&◌, ◌||◌, and_comm, or-false}
use mathlib.Core.List.{List, [], ◌∷◌}
use Rattle.meaning.specs.Lists.{any}
use Rattle.meaning.specs.Schema.{under}
use Rattle.meaning.specs.Register.{is_under}
use Rattle.meaning.specs.Forms.{variable}
use Rattle.meaning.specs.Reach.{Change, some_step, part_named, taken, Direction, up, down, role_moves, all_moves, cell_moves, inserted, specialised, kind_moves}
use Rattle.tables.specs.Columns.{object_row, types_of}
use Rattle.tables.specs.declared.Counts.{Counts}
use Rattle.directions.specs.Sets.{has, some_of}
use Rattle.walks.specs.Site.{id_in}
use Rattle.walks.proofs.Objects.{under_in}
use Rattle.trace_places.specs.Questions.{answers, named, asked, cell_set, joined_by, parted_by, inserted_into, specialised_into, generalised_from}
use Rattle.trace_places.specs.Traces.{Traced}
use Rattle.reach.specs.Moves.{leaf_moves}
use Rattle.reach.proofs.Nodes.{always}

-- up is looked at first, and down where that does not move
module _ (set : ℕ) (m : Direction → Bool) {a : Bool} (first : a ≡ (has set up && m up)) where
  pub first_way : a ≡ true → true ≡ some_of set m
  first_way q = rw (sym first ∙ q)

  pub second_way : {r : Bool} → a ≡ false → r ≡ (has set down && m down) → r ≡ some_of set m
  second_way q p = rw (sym first ∙ q) p

-- one element passes one test, or one the other
any_either : {A : Type 0} (p q : A → Bool) (l : List A) → (any p l || any q l) ≡ any (λ x. p x || q x) l
any_either p q [] = refl
any_either p q (x ∷ l) = turned (p x) (any p l) (q x) (any q l) ∙ ap (λ b. (p x || q x) || b) (any_either p q l)
  where
    turned : (a b c d : Bool) → ((a || b) || (c || d)) ≡ ((a || c) || (b || d))
    turned true b c d = refl
    turned false true true d = refl
    turned false true false d = refl
    turned false false c d = refl

module _ (c : Change) (u x : ℕ) where
  pub asked_joined : asked c (joined_by x) u ≡ role_moves c x u up
  unfolding asked named answers role_moves
  asked_joined = or-false _

  pub asked_parted : asked c (parted_by x) u ≡ role_moves c x u down
  unfolding asked named answers role_moves some_step
  asked_parted = any_either (part_named x u) (taken x u) c.steps

  pub asked_set : asked c (cell_set x) u ≡ cell_moves c u x
  unfolding asked named answers cell_moves
  asked_set = or-false _

  pub asked_inserted : asked c (inserted_into x) u ≡ inserted c u x
  unfolding asked named answers inserted
  asked_inserted = or-false _

  pub asked_specialised : asked c (specialised_into x) u ≡ specialised c u x
  unfolding asked named answers specialised
  asked_specialised = or-false _

  pub asked_generalised : asked c (generalised_from x) u ≡ kind_moves c u x down
  unfolding asked named answers kind_moves
  asked_generalised = or-false _

-- an object that is there at the end, brought in by a special
module _ {c : Change} {n : Counts} {types objects links events trace : List ℕ} (traced : Traced c n types objects links events trace) {row : ℕ} (there : row < n.objects) where
  pub under_end : (t : ℕ) → under (types_of n.types types) (object_row objects row).type t ≡ is_under c.schema.types c.end (id_in objects row) t
  under_end t =
      sym (ap₂ (λ ts g. is_under ts g (id_in objects row) t) traced.seen.types_are traced.seen.end_is
      ∙ under_in n.objects objects n.links links traced.ascends row there (types_of n.types types) t)

  pub asked_kind : (t : ℕ) {b : Bool} → b ≡ under (types_of n.types types) (object_row objects row).type t → (b && asked c (specialised_into t) (id_in objects row)) ≡ kind_moves c (id_in objects row) t up
  unfolding kind_moves
  asked_kind t e = ap₂ ◌&&◌ (e ∙ under_end t) (asked_specialised c (id_in objects row) t) ∙ and_comm (is_under c.schema.types c.end (id_in objects row) t) (specialised c (id_in objects row) t)

-- a leaf by its code
module _ (c : Change) (ids : List ℕ) (x y set : ℕ) (some_set : 0 < set) (small : set < 4) where
  pub leaf_all : some_of set (all_moves c x) ≡ some_of set (leaf_moves c ids 21 x y)
  unfolding leaf_moves
  leaf_all = refl

  pub leaf_num : false ≡ some_of set (leaf_moves c ids 14 x y)
  unfolding leaf_moves
  leaf_num = sym (always set false some_set small)

  pub leaf_cell : cell_moves c (variable ids x) y ≡ some_of set (leaf_moves c ids 15 x y)
  unfolding leaf_moves
  leaf_cell = sym (always set (cell_moves c (variable ids x) y) some_set small)

  pub leaf_role : some_of set (role_moves c y (variable ids x)) ≡ some_of set (leaf_moves c ids 20 x y)
  unfolding leaf_moves
  leaf_role = refl

  pub leaf_kind : some_of set (kind_moves c (variable ids x) y) ≡ some_of set (leaf_moves c ids 13 x y)
  unfolding leaf_moves
  leaf_kind = refl
