-- What the history of a batch that is not refused gives at the leaves of the induction over forms.
use Prim.Native.Nat.{ℕ, ◌<◌}
use mathlib.Core.Path.{◌≡◌, sym, subst}
use mathlib.Core.Logic.{⊎_elim}
use mathlib.Core.Bool.{◌&&◌, Bool, not}
use mathlib.Core.List.{List}
use mathlib.Core.Option.{none}
use lib.Dec.{T, eqb}
use mir.Facts.{and_no, T_not, not_T}
use Rattle.meaning.specs.Schema.{under, ObjectType, Relationship, Schema, cells_of, far_type}
use Rattle.meaning.specs.Register.{Link, Register, present, is_under, cell_at, instances, has_link, far_end, starts_at, far_ends}
use Rattle.meaning.specs.Forms.{truth}
use Rattle.meaning.specs.Events.{Event, Lent, apply, after, event_refusal}
use Rattle.meaning.specs.Reach.{step_at, Change, change_by, some_step, inserts, deletes, specials, generals, joined, parted, sets_cell, inserts_into, specialises_into, deletes_from}
use Rattle.meaning.specs.Reach.{generalises_from, brings_in, takes_out, anyone, Direction, up, down, role_moves, all_moves, cell_moves, kind_moves, inserted, specialised}
use Rattle.meaning.specs.Lists.{◌∈◌}
use Rattle.meaning.proofs.Lists.{or_left, or_right}
use Rattle.meaning.proofs.Schemas.{TypesFit}
use Rattle.meaning.proofs.Registers.{RegisterFits, under_present, instance_in, instance_from, far_in, far_from, far_under}
use Rattle.meaning.proofs.Floors.{floor_holds}
use Rattle.meaning.proofs.Effects.{link_stays, link_was, under_stays, under_was, cell_same, insert_absent, delete_absent}
use Rattle.meaning.specs.Unmoved.{Unmoved}
use Rattle.meaning.proofs.Movement.{UnmovedKept, Leaves}
use Rattle.meaning.proofs.Steps.{among_whom, holds_at, none_map, Throughout, EachStep, Unrefused, at-start, at_end, throughout_map, throughout_both, each_side, each_both, each_map, unchanged, forwards, backwards, no_step, fits_throughout, each_fit}

module _ (S : Schema) (types_fit : TypesFit S.types) (lent : Lent) (g : Register) (fits : RegisterFits S g) (es : List Event) (ok : Unrefused S lent g es) where
  abbrev types : List ObjectType
  types = S.types

  abbrev relationships : List Relationship
  relationships = S.relationships

  abbrev c : Change
  c = change_by S g es

  -- the object was under the type all the while
  abbrev pub Kept : ℕ → ℕ → Type 0
  Kept x t = Throughout (λ g'. T (is_under types g' x t)) S g es

  abbrev Linked : Link → Type 0
  Linked l = Throughout (λ g'. T (has_link g' l)) S g es

  -- What holds at the start and is kept by each event holds all the while. R is what is known of each step.
  persists : (P : Register → Type 0) (R : Register → Event → Type 0) → ((g' : Register) → RegisterFits S g' → (e : Event) → event_refusal S lent g' e ≡ none → R g' e → P g' → P (apply S e g')) → EachStep R S g es → P g → Throughout P S g es
  persists P R law known p =
      forwards S P g es (each_map S _ _ (λ g' e k. law g' k.0.0 e k.0.1 k.1) g es (each_both S _ R g es (each_fit S types_fit lent g es fits ok) known)) p

  -- What holds at the end and is brought about by no event held all the while.
  held : (P : Register → Type 0) (R : Register → Event → Type 0) → ((g' : Register) → RegisterFits S g' → (e : Event) → event_refusal S lent g' e ≡ none → R g' e → P (apply S e g') → P g') → EachStep R S g es → P (after S g es) → Throughout P S g es
  held P R law known p =
      backwards S P g es (each_map S _ _ (λ g' e k. law g' k.0.0 e k.0.1 k.1) g es (each_both S _ R g es (each_fit S types_fit lent g es fits ok) known)) p

  -- ---- roles

  link_kept : (r x : ℕ) (l : Link) → T (starts_at r x l) → Linked l → Kept (far_end r l) (far_type relationships r)
  link_kept r x l s h =
      throughout_map S _ _ (λ g' k. far_under S g' k.0 r x l k.1 s) g es
      (throughout_both S (RegisterFits S) (λ g'. T (has_link g' l)) g es (fits_throughout S types_fit lent g es fits ok) h)

  -- with no gain, a link at the end was there all the while
  pub no_gain : (r x : ℕ) → T (not (role_moves c r x up)) → (l : Link) → T (starts_at r x l) → T (has_link (after S g es) l) → Linked l
  unfolding role_moves
  no_gain r x n l s h =
      held (λ g'. T (has_link g' l)) _ (λ g' f e o. link_was S types_fit lent g' f e o r x (has_link (after S g es)) l s h)
      (no_step S (joined r x (has_link (after S g es))) g es n) h

  -- each step, with the object under its type before and after it
  kept_sides : (x t : ℕ) → Kept x t → EachStep (λ g' e. T (is_under types g' x t) × T (is_under types (apply S e g') x t)) S g es
  kept_sides x t h = each_side S (λ g'. T (is_under types g' x t)) g es h

  -- with no loss, a link that was there is there all the while, as its near end is
  no_loss : (r x t : ℕ) → Kept x t → T (not (role_moves c r x down)) → (l : Link) → T (starts_at r x l) → T (has_link g l) → Linked l
  unfolding role_moves
  no_loss r x t k n l s h =
      persists (λ g'. T (has_link g' l)) _
      (λ g' f e o q. link_stays S types_fit lent g' f e o r x l (under_present types (apply S e g') x t q.0.1) s q.1)
      (each_both S _ _ g es (kept_sides x t k) (no_step S (parted r x) g es n)) h

  role_end : (r x y : ℕ) → T (not (role_moves c r x up)) → y ∈ far_ends (after S g es) r x → y ∈ far_ends g r x × Kept y (far_type relationships r)
  role_end r x y n m =
      let f = far_from (after S g es) r x y m in
      let h = no_gain r x n f.0 f.2 f.1 in (
        subst (λ z. z ∈ far_ends g r x) (sym f.3) (far_in g r x f.0 (at-start S _ g es h) f.2),
        subst (λ z. Kept z (far_type relationships r)) (sym f.3) (link_kept r x f.0 f.2 h),
      )

  role_start : (r x t y : ℕ) → Kept x t → T (not (role_moves c r x down)) → y ∈ far_ends g r x → y ∈ far_ends (after S g es) r x × Kept y (far_type relationships r)
  role_start r x t y k n m =
      let f = far_from g r x y m in
      let h = no_loss r x t k n f.0 f.2 f.1 in (
        subst (λ z. z ∈ far_ends (after S g es) r x) (sym f.3) (far_in (after S g es) r x f.0 (at_end S _ g es h) f.2),
        subst (λ z. Kept z (far_type relationships r)) (sym f.3) (link_kept r x f.0 f.2 h),
      )

  role_leaf : (d : Direction) (r x t : ℕ) → Kept x t → T (not (role_moves c r x d)) → UnmovedKept Kept (far_type relationships r) d (far_ends g r x) (far_ends (after S g es) r x)
  role_leaf up r x t k n = (λ y m. (role_end r x y n m).0, λ y m m'. (role_end r x y n m').1)
  role_leaf down r x t k n = (λ y m. (role_start r x t y k n m).0, λ y m m'. (role_start r x t y k n m).1)

  -- ---- types

  -- an object under t at the end, whom no insert and no special brought into t, was under t all the while
  pub not_brought_in : (x t : ℕ) → T (not (inserted c x t)) → T (not (specialised c x t)) → T (is_under types (after S g es) x t) → Kept x t
  unfolding inserted specialised
  not_brought_in x t ni ns u =
      held (λ g'. T (is_under types g' x t)) _ (λ g' f e o k. under_was S types_fit lent g' f e o x t k.0 k.1)
      (each_both S _ _ g es (no_step S (inserts_into types t (eqb x)) g es ni) (no_step S (specialises_into types t (eqb x)) g es ns)) u

  -- an object under t, whom no delete and no general took out of t, stays under t all the while
  not_taken_out : (x t : ℕ) → T (not (some_step c (deletes_from types t (eqb x)))) → T (not (some_step c (generalises_from types t (eqb x)))) → T (is_under types g x t) → Kept x t
  not_taken_out x t nd ng u =
      persists (λ g'. T (is_under types g' x t)) _ (λ g' f e o k. under_stays S types_fit lent g' f e o x t k.0 k.1)
      (each_both S _ _ g es (no_step S (deletes_from types t (eqb x)) g es nd) (no_step S (generalises_from types t (eqb x)) g es ng)) u

  all_end : (t x : ℕ) → T (not (all_moves c t up)) → T (is_under types (after S g es) x t) → Kept x t
  unfolding all_moves inserted specialised
  all_end t x n u =
      let there : ℕ → Bool = λ y. is_under types (after S g es) y t in
      let came = holds_at there x u in
      not_brought_in x t
      (none_map c _ (brings_in types t there) (λ s i. or_left (inserts_into types t there s) _ (among_whom inserts (λ x'' x3 x4. under (change_by S g es).schema.types x3 t) (eqb x) there came s.event i)) n)
      (none_map c _ (brings_in types t there) (λ s i. or_right (inserts_into types t there s) _ (among_whom specials (λ x'' x3 x4. under (change_by S g es).schema.types x3 t && not (is_under (change_by S g es).schema.types s.met x'' t)) (eqb x) there came s.event i)) n)
      u

  all_start : (t x : ℕ) → T (not (all_moves c t down)) → T (is_under types g x t) → Kept x t
  unfolding all_moves
  all_start t x n u =
      let went = holds_at anyone x tt in
      not_taken_out x t
      (none_map c _ (takes_out types t anyone) (λ s i. or_left (deletes_from types t anyone s) _ (among_whom deletes (λ x'' x3 x4. is_under S.types s.met x'' t) (eqb x) anyone went s.event i)) n)
      (none_map c _ (takes_out types t anyone) (λ s i. or_right (deletes_from types t anyone s) _ (among_whom generals (λ x'' x3 x4. is_under S.types s.met x'' t && not (under S.types x3 t)) (eqb x) anyone went s.event i)) n)
      u

  end_register : RegisterFits S (after S g es)
  end_register = at_end S (RegisterFits S) g es (fits_throughout S types_fit lent g es fits ok)

  all_leaf : (d : Direction) (t : ℕ) → T (not (all_moves c t d)) → UnmovedKept Kept t d (instances types g t) (instances types (after S g es) t)
  all_leaf up t n =
      (λ x m. instance_in types g x t (at-start S _ g es (was x m)), λ x m m'. was x m')
    where
      was : (x : ℕ) → x ∈ instances types (after S g es) t → Kept x t
      was x m = all_end t x n (instance_from types (after S g es) end_register.objects_ascend x t m)
  all_leaf down t n =
      (λ x m. instance_in types (after S g es) x t (at_end S _ g es (stays x m)), λ x m m'. stays x m)
    where
      stays : (x : ℕ) → x ∈ instances types g t → Kept x t
      stays x m = all_start t x n (instance_from types g fits.objects_ascend x t m)

  -- ---- cells

  cell_leaf : (x t k : ℕ) → Kept x t → k < cells_of types t → T (not (cell_moves c x k)) → cell_at g x k ≡ cell_at (after S g es) x k
  unfolding cell_moves
  cell_leaf x t k h l n =
      unchanged S (λ g'. cell_at g' x k) g es
      (each_map S _ _ (λ g' e q. cell_same S types_fit lent g' q.0.0 e q.0.1 x t k l q.1.0.0 q.1.0.1 q.1.1) g es
      (each_both S _ _ g es (each_fit S types_fit lent g es fits ok)
      (each_both S _ _ g es (kept_sides x t h) (no_step S (sets_cell (eqb x) k) g es n))))

  -- ---- kinds: an object that is kept is neither inserted nor deleted

  not_special_in : (x u t : ℕ) → Kept x u → T (not (specialised c x t)) → T (is_under types (after S g es) x t) → Kept x t
  unfolding specialised
  not_special_in x u t h n e =
      held (λ g'. T (is_under types g' x t)) _
      (λ g' f e o k. under_was S types_fit lent g' f e o x t (not_T (inserts_into types t (eqb x) (step_at g' e)) (λ i. T_not (present g' x) (under_present types g' x u k.0.0) (insert_absent S types_fit lent g' f e o x t i))) k.1)
      (each_both S _ _ g es (kept_sides x u h) (no_step S (specialises_into types t (eqb x)) g es n)) e

  not_general_out : (x u t : ℕ) → Kept x u → T (not (some_step c (generalises_from types t (eqb x)))) → T (is_under types g x t) → Kept x t
  not_general_out x u t h n e =
      persists (λ g'. T (is_under types g' x t)) _
      (λ g' f e o k. under_stays S types_fit lent g' f e o x t (not_T (deletes_from types t (eqb x) (step_at g' e)) (λ i. T_not (present (apply S e g') x) (under_present types (apply S e g') x u k.0.1) (delete_absent S types_fit lent g' f e o x t i))) k.1)
      (each_both S _ _ g es (kept_sides x u h) (no_step S (generalises_from types t (eqb x)) g es n)) e

  kind_leaf : (d : Direction) (x u t : ℕ) → Kept x u → T (not (kind_moves c x t d)) → Unmoved truth d (is_under types g x t) (is_under types (after S g es) x t)
  unfolding kind_moves specialised
  kind_leaf up x u t h n = λ e.
      at-start S _ g es
      (not_special_in x u t h
      (⊎_elim (λ q. q) (λ q. absurd (T_not (is_under types (after S g es) x t) e q)) (and_no (specialised c x t) (is_under types (after S g es) x t) n)) e)
  kind_leaf down x u t h n = λ e. at_end S _ g es (not_general_out x u t h n e)

  pub leaves : Leaves c g Kept
  leaves =
      record {
        first_fits = fits;
        end_fits = end_register;
        role_unmoved = λ d x t r h s n. role_leaf d r x t h n;
        all_unmoved = all_leaf;
        cell_unmoved = cell_leaf;
        floor_before = floor_holds S types_fit g fits;
        floor_at_end = floor_holds S types_fit (after S g es) end_register;
        kind_unmoved = kind_leaf;
      }
