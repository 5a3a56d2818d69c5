-- What an event that is not refused does to a register that fits its schema: it fits afterwards, and links, types and cells
-- change only as the reach rules' tests of a step say.
use Prim.Native.Nat.{ℕ, ◌<◌, ◌≤◌, ◌-◌, min}
use mathlib.Core.Path.{◌≡◌, refl, sym, ap, subst, ◌∙◌}
use mathlib.Core.Logic.{◌⊎◌, inl, inr, ⊎_elim}
use mathlib.Core.Bool.{Bool, true, false, ◌&&◌, not, cond}
use mathlib.Core.List.Memᴰ
use mathlib.Core.List.{List, [], ◌∷◌}
use mathlib.Core.Option.{Option, none, some, map, none-ne-some, some-ne-none, some-injective}
use native.Mathlib.Nat.{add-sub_of_le, lt_of_lt_of_le, le_trans}
use native.Mathlib.Omega.{arith}
use lib.Dec.{T, ltb, eqb, eqb_refl}
use lib.ListN.{length, get_or, take, drop, replicate, length-append, length-replicate, length-set, length-map, get_or-append}
use lib.Seq.{length-take-le, drop-set-lt, drop_at, drop-drop, get_or-take, get_or-set_other}
use lib.IntN.{ℤ, pos}
use mir.Facts.{and_yes, yes_and, or_yes, or_no, T_not, not_T, T_not-not, eqb_yes, yes_eqb, eqb_no, ltb_yes, leb_no}
use Rattle.meaning.specs.Lists.{every, keep, put_in_order, ◌∈◌, Ascending, Before}
use Rattle.meaning.specs.Limits.{cell_count, max_objects, valid_id, fits_word}
use Rattle.meaning.specs.Schema.{ObjectType, Relationship, Schema, known_type, known_relationship, cells_of, under, floored, relationship_of, forward, source_type, target_type}
use Rattle.meaning.specs.Register.{Object, Link, Register, object_key, link_key, object_at, present, is_under, cell_at, same_link, has_link, near_end, far_end, starts_at, is_zero, negative, below_floor, object_fits, link_fits}
use Rattle.meaning.specs.Events.{Event, insert, delete, set, join, part, special, general, Lent, link_of, new_object, cleared_from, with_cell, with_type, with_higher_type, amended, ends_at, apply, Check}
use Rattle.meaning.specs.Events.{◌when◌, first_met, needs_type, type_needed, strictly_above, strictly_under, has_cell, set_below, brought_below, checks, event_refusal, known_event}
use Rattle.meaning.specs.Reach.{step_at, joined, leads_to, parted, sets_cell, inserts_into, specialises_into, deletes_from, generalises_from}
use Rattle.meaning.proofs.Lists.{not_and_left, not_sub, decide, first_absent, first_keep, first_map, every_drop, every_take, every_append, every_replicate, every_set, holds_some, cond_yes, cond_no, any_none, keep_in, keep_from, length_keep, ascending_keep, ascending_map}
use Rattle.meaning.proofs.Order.{first_put, length_put, put_from, put_other, put_has, put_ascending}
use Rattle.meaning.proofs.Schemas.{TypesFit, under_trans, under_cells}
use Rattle.meaning.proofs.Registers.{RegisterFits, object_parts, object_whole, object_at_lem, ascending_found, under_present, same_link_lem, link_in, link_has, link_parts, link_whole}
use Rattle.meaning.proofs.Floors.{zeros_kept, written_kept, raised_kept}

-- ---- refusals that are not met

abbrev Clear : List Check → Type 0
Clear [] = Unit {0}
Clear ((n when met) ∷ checks) = T (not met) × Clear checks

not_met : (checks : List Check) → first_met checks ≡ none → Clear checks
unfolding first_met
not_met [] e = tt
not_met ((n when met) ∷ checks) e = step met (λ q. not_met checks q) e
  where
    step : (b : Bool) → (first_met checks ≡ none → Clear checks) → cond b (some n) (first_met checks) ≡ none → T (not b) × Clear checks
    step true below q = absurd (some-ne-none n q)
    step false below q = (tt, below q)

clear : (S : Schema) (lent : Lent) (g : Register) (e : Event) → event_refusal S lent g e ≡ none → Clear (checks S lent g e)
unfolding event_refusal
clear S lent g e ok = not_met (checks S lent g e) ok

-- What refusal 11 leaves of a special or a general: the object's type is strictly above the new one, or strictly under it.
abbrev pub EventFits : Schema → Register → Event → Type 0
EventFits S g (insert id t) = Unit {0}
EventFits S g (delete id) = Unit {0}
EventFits S g (set id k v) = Unit {0}
EventFits S g (join r a b) = Unit {0}
EventFits S g (part r a b) = Unit {0}
EventFits S g (special id t) = T (strictly_above S.types g id t)
EventFits S g (general id t) = T (strictly_under S.types g id t)

pub event_fits : (S : Schema) (lent : Lent) (g : Register) (e : Event) → event_refusal S lent g e ≡ none → EventFits S g e
unfolding checks known_event
event_fits S lent g (insert id t) ok = tt
event_fits S lent g (delete id) ok = tt
event_fits S lent g (set id k v) ok = tt
event_fits S lent g (join r a b) ok = tt
event_fits S lent g (part r a b) ok = tt
event_fits S lent g (special id t) ok = T_not-not (strictly_above S.types g id t) (clear S lent g (special id t) ok).1.1.0
event_fits S lent g (general id t) ok = T_not-not (strictly_under S.types g id t) (clear S lent g (general id t) ok).1.1.0

-- a refusal of what lacks one of two
both : (a b : Bool) → T (not (not (a && b))) → T a × T b
both a b n = and_yes a b (T_not-not (a && b) n)

and_rest : (a b : Bool) → T a → T (not (a && b)) → T (not b)
and_rest true b t n = n
and_rest false b t n = absurd t

-- a test of an event that names x, where the object asked for is x
at_self : (b : Bool) (x : ℕ) → T (not (eqb x x && b)) → T (not b)
at_self b x n = and_rest (eqb x x) b (eqb_refl x) n

-- ---- cells

module _ (S : Schema) (types_fit : TypesFit S.types) (o : Object) where
  abbrev its : List ObjectType
  its = S.types

  with_cell_fits : (k : ℕ) (v : ℤ) → T (fits_word v) → k < cells_of its o.type → T (not (negative v && floored S.types S.floors o.type k)) → T (object_fits S.types S.floors o) → T (object_fits S.types S.floors (with_cell k v o))
  with_cell_fits k v w h allowed t =
      let f = object_parts S o t in
      object_whole S (with_cell k v o)
      (record {
        id_valid = f.id_valid;
        type_known = f.type_known;
        cells_count = length-set o.cells k v ∙ f.cells_count;
        cells_word = every_set fits_word o.cells k v w f.cells_word;
        cells_zero = rw (drop-set-lt (cells_of its o.type) o.cells k v h) f.cells_zero;
        floors_kept = written_kept S o.type k v o.cells (rw f.cells_count (lt_of_lt_of_le h (types_fit.cells_bound o.type))) allowed f.floors_kept;
      })

  with_type_fits : (t : ℕ) → T (known_type its t) → cells_of its o.type ≤ cells_of its t → T (not (below_floor S.types S.floors t o.cells)) → T (object_fits S.types S.floors o) → T (object_fits S.types S.floors (with_type t o))
  with_type_fits t known h allowed fit =
      let f = object_parts S o fit in
      object_whole S (with_type t o)
      (record {
        id_valid = f.id_valid;
        type_known = known;
        cells_count = f.cells_count;
        cells_word = f.cells_word;
        cells_zero =
            subst (λ l. T (every is_zero l))
            (drop-drop (cells_of its t - cells_of its o.type) (cells_of its o.type) o.cells ∙ ap (λ n. drop n o.cells) (add-sub_of_le h))
            (every_drop is_zero (cells_of its t - cells_of its o.type) (drop (cells_of its o.type) o.cells) f.cells_zero);
        floors_kept = allowed;
      })

  with_higher_type_fits : (t : ℕ) → T (known_type its t) → T (under its o.type t) → T (object_fits S.types S.floors o) → T (object_fits S.types S.floors (with_higher_type its t o))
  unfolding fits_word
  with_higher_type_fits t known above fit =
      let f = object_parts S o fit in
      let n = cells_of its t in
      let h = types_fit.cells_bound t in
      let zeros = replicate (cell_count - n) (pos 0) in
      let taken : length (take n o.cells) ≡ n = length-take-le n o.cells (rw f.cells_count h) in
      object_whole S (with_higher_type its t o)
      (record {
        id_valid = f.id_valid;
        type_known = known;
        cells_count = length-append (take n o.cells) zeros ∙ rw (taken, length-replicate (cell_count - n) (pos 0)) (add-sub_of_le h);
        cells_word =
            every_append fits_word (take n o.cells) zeros (every_take fits_word n o.cells f.cells_word)
            (every_replicate fits_word (cell_count - n) (pos 0) tt);
        cells_zero = rw (drop_at (take n o.cells) zeros n taken) (every_replicate is_zero (cell_count - n) (pos 0) tt);
        floors_kept = raised_kept S types_fit o.type t n o.cells above f.floors_kept;
      })

-- the cells that a higher type has stay
cleared_same : (n k : ℕ) (cells : List ℤ) → n ≤ length cells → k < n → get_or (cleared_from n cells) k (pos 0) ≡ get_or cells k (pos 0)
cleared_same n k cells enough h =
    get_or-append (take n cells) (replicate (cell_count - n) (pos 0)) (pos 0) k (rw (length-take-le n cells enough) h)
    ∙ get_or-take n cells k (pos 0) h

new_object_fits : (S : Schema) (id t : ℕ) → T (valid_id id) → T (known_type S.types t) → T (object_fits S.types S.floors (new_object id t))
unfolding fits_word
new_object_fits S id t valid known =
    object_whole S (new_object id t)
    (record {
      id_valid = valid;
      type_known = known;
      cells_count = refl;
      cells_word = tt;
      cells_zero = every_drop is_zero (cells_of S.types t) (replicate cell_count (pos 0)) tt;
      floors_kept = zeros_kept S t cell_count;
    })

-- ---- an object of a register after a change

-- what holds at id, and at every other number, holds
at_or_else : (P : ℕ → Type 0) (id x : ℕ) → P id → (T (not (eqb id x)) → P x) → P x
at_or_else P id x here there = ⊎_elim (λ (e : T (eqb id x)). subst P (eqb_yes e) here) there (decide (eqb id x))

module _ (g : Register) (id : ℕ) where
  -- the object of another id is not the one of this id
  other : {x y : ℕ} → T (not (eqb id x)) → y ≡ x → T (not (eqb y id))
  other {x} {y} n e = not_T (eqb y id) (λ t. eqb_no n (sym (eqb_yes t) ∙ e))

  inserted_at : (S : Schema) (t : ℕ) → Ascending (Before object_key) g.objects → T (not (present g id)) → object_at (apply S (insert id t) g) id ≡ some (new_object id t)
  unfolding apply present
  inserted_at S t a absent = ascending_found (apply S (insert id t) g) (put_ascending object_key 1 (λ o. refl) new g.objects a) placed
    where
      new : Object
      new = new_object id t

      placed : new ∈ put_in_order object_key new g.objects
      placed =
          let z = put_has object_key 1 (λ o. refl) new g.objects in
          ⊎_elim (λ (q : z.0 ≡ new). Memᴰ.cast (sym q) z.1)
          (λ (m : z.0 ∈ g.objects).
          absurd
          (T_not (present g id) (rw (← ap (λ k. get_or k 0 0) z.2, ascending_found g a m) tt) absent))
          (put_from object_key new g.objects z.1)

  inserted_other : (S : Schema) (t x : ℕ) → T (not (eqb id x)) → object_at (apply S (insert id t) g) x ≡ object_at g x
  unfolding apply object_at
  inserted_other S t x n = first_put (λ o. eqb o.id x) object_key (new_object id t) g.objects n

  deleted_at : (S : Schema) → object_at (apply S (delete id) g) id ≡ none
  unfolding apply object_at
  deleted_at S =
      first_absent (λ o. eqb o.id id) (keep (λ o. not (eqb o.id id)) g.objects)
      (λ y m. (keep_from (λ o. not (eqb o.id id)) g.objects m).1)

  deleted_other : (S : Schema) (x : ℕ) → T (not (eqb id x)) → object_at (apply S (delete id) g) x ≡ object_at g x
  unfolding apply object_at
  deleted_other S x n = first_keep (λ o. eqb o.id x) (λ o. not (eqb o.id id)) g.objects (λ y m t. other n (eqb_yes t))

  module _ (change : Object → Object) (keeps : (o : Object) → (change o).id ≡ o.id) where
    abbrev amend : Object → Object
    amend o = cond (eqb o.id id) (change o) o

    amend_id : (o : Object) → (amend o).id ≡ o.id
    amend_id o = step (eqb o.id id)
      where
        step : (b : Bool) → (cond b (change o) o).id ≡ o.id
        step true = keeps o
        step false = refl

    amended_ascends : Ascending (Before object_key) g.objects → Ascending (Before object_key) (amended id change g).objects
    amended_ascends a =
        ascending_map amend (Before object_key) (Before object_key) g.objects
        (λ x y m n b. rw (amend_id x, amend_id y) b) a

    amended_lookup : (x : ℕ) → object_at (amended id change g) x ≡ map amend (object_at g x)
    unfolding object_at
    amended_lookup x = first_map (λ o. eqb o.id x) amend (λ o. ap (λ i. eqb i x) (amend_id o)) g.objects

    amended_at : {o : Object} → object_at g id ≡ some o → object_at (amended id change g) id ≡ some (change o)
    amended_at {o} e =
        amended_lookup id ∙ ap (map amend) e
        ∙ ap {B = Option Object} some (cond_yes (eqb o.id id) (change o) o (yes_eqb (object_at_lem g id e).1))

    amended_other : (x : ℕ) → T (not (eqb id x)) → object_at (amended id change g) x ≡ object_at g x
    amended_other x n = amended_lookup x ∙ step (object_at g x) refl
      where
        step : (found : Option Object) → object_at g x ≡ found → map amend found ≡ found
        step none e = refl
        step (some o) e = ap {B = Option Object} some (cond_no (eqb o.id id) (change o) o (other n (object_at_lem g x e).1))

-- What an event that is not refused did to the object of id x, from register g to register h.
data Fate (S : Schema) (g h : Register) (x : ℕ) : Event → Type 0 where
  kept : {e : Event} → object_at h x ≡ object_at g x → Fate S g h x e
  came : {t : ℕ} → T (valid_id x) → T (known_type S.types t) → T (not (present g x)) → object_at h x ≡ some (new_object x t) → Fate S g h x (insert x t)
  went : object_at h x ≡ none → Fate S g h x (delete x)
  written : {o : Object} {k : ℕ} {v : ℤ} → T (fits_word v) → k < cells_of S.types o.type → T (not (negative v && floored S.types S.floors o.type k)) → object_at g x ≡ some o → object_at h x ≡ some (with_cell k v o) → Fate S g h x (set x k v)
  lowered : {o : Object} {t : ℕ} → T (known_type S.types t) → T (under S.types t o.type) → T (not (below_floor S.types S.floors t o.cells)) → object_at g x ≡ some o → object_at h x ≡ some (with_type t o) → Fate S g h x (special x t)
  raised : {o : Object} {t : ℕ} → T (known_type S.types t) → T (under S.types o.type t) → object_at g x ≡ some o → object_at h x ≡ some (with_higher_type S.types t o) → Fate S g h x (general x t)

module _ (S : Schema) (types_fit : TypesFit S.types) (lent : Lent) (g : Register) (fits : RegisterFits S g) where
  abbrev types : List ObjectType
  types = S.types

  abbrev relationships : List Relationship
  relationships = S.relationships

  fate : (e : Event) → event_refusal S lent g e ≡ none → (x : ℕ) → Fate S g (apply S e g) x e
  unfolding apply checks known_event strictly_above strictly_under has_cell set_below brought_below object_at
  fate (insert id t) ok x =
      let c = clear S lent g (insert id t) ok in
      let valid = both (valid_id id) (known_type types t) c.0 in
      at_or_else (λ y. Fate S g (apply S (insert id t) g) y (insert id t)) id x
      (came valid.0 valid.1 c.1.0 (inserted_at g id S t fits.objects_ascend c.1.0))
      (λ n. kept (inserted_other g id S t x n))
  fate (delete id) ok x =
      at_or_else (λ y. Fate S g (apply S (delete id) g) y (delete id)) id x (went (deleted_at g id S)) (λ n. kept (deleted_other g id S x n))
  fate (set id k v) ok x =
      let c = clear S lent g (set id k v) ok in
      let o = holds_some (λ o. ltb k (cells_of types o.type)) (object_at g id) (T_not-not (has_cell types g id k) c.1.1.0) in
      at_or_else (λ y. Fate S g (apply S (set id k v) g) y (set id k v)) id x
      (written (both (valid_id id && ltb k cell_count) (fits_word v) c.0).1 (ltb_yes o.2) (rw (set_below, o.1) at c.1.1.1.0) o.1 (amended_at g id (with_cell k v) (λ o. refl) o.1))
      (λ n. kept (amended_other g id (with_cell k v) (λ o. refl) x n))
  fate (join r a b) ok x = kept refl
  fate (part r a b) ok x = kept refl
  fate (special id t) ok x =
      let c = clear S lent g (special id t) ok in
      let o = holds_some (λ o. under types t o.type && not (eqb t o.type)) (object_at g id) (T_not-not (strictly_above types g id t) c.1.1.0) in
      let lower = (and_yes (under types t o.0.type) (not (eqb t o.0.type)) o.2).0 in
      at_or_else (λ y. Fate S g (apply S (special id t) g) y (special id t)) id x
      (lowered (both (valid_id id) (known_type types t) c.0).1 lower (rw (brought_below, o.1) at c.1.1.1.0) o.1 (amended_at g id (with_type t) (λ o. refl) o.1))
      (λ n. kept (amended_other g id (with_type t) (λ o. refl) x n))
  fate (general id t) ok x =
      let c = clear S lent g (general id t) ok in
      let o = holds_some (λ o. under types o.type t && not (eqb t o.type)) (object_at g id) (T_not-not (strictly_under types g id t) c.1.1.0) in
      let higher = (and_yes (under types o.0.type t) (not (eqb t o.0.type)) o.2).0 in
      at_or_else (λ y. Fate S g (apply S (general id t) g) y (general id t)) id x
      (raised (both (valid_id id) (known_type types t) c.0).1 higher o.1 (amended_at g id (with_higher_type types t) (λ o. refl) o.1))
      (λ n. kept (amended_other g id (with_higher_type types t) (λ o. refl) x n))

  -- ---- types

  pub under_stays : (e : Event) → event_refusal S lent g e ≡ none → (x t : ℕ) → T (not (deletes_from types t (eqb x) (step_at g e))) → T (not (generalises_from types t (eqb x) (step_at g e))) → T (is_under types g x t) → T (is_under types (apply S e g) x t)
  unfolding is_under
  under_stays e ok x t nd ng u = step (fate e ok x) nd ng
    where
      step : {f : Event} {h : Register} → Fate S g h x f → T (not (deletes_from types t (eqb x) (step_at g f))) → T (not (generalises_from types t (eqb x) (step_at g f))) → T (is_under types h x t)
      step (kept q) nd ng = rw q u
      step (came i k a b) nd ng = absurd (T_not (present g x) (under_present types g x t u) a)
      step (went b) nd ng = absurd (T_not (is_under types g x t) u (at_self (is_under types g x t) x nd))
      step (written w k f a b) nd ng = rw b (rw a at u)
      step (lowered {o} {t = s} k l f a b) nd ng = rw b (under_trans types types_fit s o.type t l (rw a at u))
      step (raised {o} {t = s} k l a b) nd ng =
          rw b (T_not-not (under types s t) (and_rest (is_under types g x t) (not (under types s t)) u (at_self (is_under types g x t && not (under types s t)) x ng)))

  pub under_was : (e : Event) → event_refusal S lent g e ≡ none → (x t : ℕ) → T (not (inserts_into types t (eqb x) (step_at g e))) → T (not (specialises_into types t (eqb x) (step_at g e))) → T (is_under types (apply S e g) x t) → T (is_under types g x t)
  unfolding is_under
  under_was e ok x t ni ns u = step (fate e ok x) ni ns u
    where
      step : {f : Event} {h : Register} → Fate S g h x f → T (not (inserts_into types t (eqb x) (step_at g f))) → T (not (specialises_into types t (eqb x) (step_at g f))) → T (is_under types h x t) → T (is_under types g x t)
      step (kept q) ni ns u = rw q at u
      step (came {t = s} i k a b) ni ns u = absurd (T_not (under types s t) (rw b at u) (at_self (under types s t) x ni))
      step (went b) ni ns u = absurd (rw b at u)
      step (written w k f a b) ni ns u = rw a (rw b at u)
      step (lowered {o} {t = s} k l f a b) ni ns u =
          T_not-not (is_under types g x t) (and_rest (under types s t) (not (is_under types g x t)) (rw b at u) (at_self (under types s t && not (is_under types g x t)) x ns))
      step (raised {o} {t = s} k l a b) ni ns u = rw a (under_trans types types_fit o.type s t l (rw b at u))

  -- ---- the register fits

  found_fits : (x : ℕ) {o : Object} → object_at g x ≡ some o → T (object_fits S.types S.floors o)
  found_fits x {o} e = fits.objects_fit o (object_at_lem g x e).0

  objects_ascend_after : (e : Event) → Ascending (Before object_key) (apply S e g).objects
  unfolding apply
  objects_ascend_after (insert id t) = put_ascending object_key 1 (λ o. refl) (new_object id t) g.objects fits.objects_ascend
  objects_ascend_after (delete id) = ascending_keep (Before object_key) (λ o. not (eqb o.id id)) g.objects fits.objects_ascend
  objects_ascend_after (set id k v) = amended_ascends g id (with_cell k v) (λ o. refl) fits.objects_ascend
  objects_ascend_after (join r a b) = fits.objects_ascend
  objects_ascend_after (part r a b) = fits.objects_ascend
  objects_ascend_after (special id t) = amended_ascends g id (with_type t) (λ o. refl) fits.objects_ascend
  objects_ascend_after (general id t) = amended_ascends g id (with_higher_type types t) (λ o. refl) fits.objects_ascend

  objects_fit_after : (e : Event) → event_refusal S lent g e ≡ none → (o : Object) → o ∈ (apply S e g).objects → T (object_fits S.types S.floors o)
  objects_fit_after e ok o m = step (fate e ok o.id) (ascending_found (apply S e g) (objects_ascend_after e) m)
    where
      now : {found : Option Object} {n : Object} → found ≡ some o → found ≡ some n → T (object_fits S.types S.floors n) → T (object_fits S.types S.floors o)
      now {n} p q t = subst (λ z. T (object_fits S.types S.floors z)) (some-injective n o (sym q ∙ p)) t

      step : {f : Event} {h : Register} → Fate S g h o.id f → object_at h o.id ≡ some o → T (object_fits S.types S.floors o)
      step (kept q) p = found_fits o.id (sym q ∙ p)
      step (came {t} i k a b) p = now p b (new_object_fits S o.id t i k)
      step (went b) p = absurd (none-ne-some o (sym b ∙ p))
      step (written {o = was} {k} {v} w h f a b) p = now p b (with_cell_fits S types_fit was k v w h f (found_fits o.id a))
      step (lowered {o = was} {t} k l f a b) p = now p b (with_type_fits S types_fit was t k (under_cells types types_fit t was.type l) f (found_fits o.id a))
      step (raised {o = was} {t} k l a b) p = now p b (with_higher_type_fits S types_fit was t k l (found_fits o.id a))

  -- the event does not take object x out of type t
  abbrev Leaves : Event → ℕ → ℕ → Type 0
  Leaves e x t = T (not (deletes_from types t (eqb x) (step_at g e))) × T (not (generalises_from types t (eqb x) (step_at g e)))

  -- a delete takes the link along
  abbrev goes_with : Event → Link → Bool
  goes_with (insert id t) l = false
  goes_with (delete id) l = ends_at id l
  goes_with (set id k v) l = false
  goes_with (join r a b) l = false
  goes_with (part r a b) l = false
  goes_with (special id t) l = false
  goes_with (general id t) l = false

  -- a link that does not go with its object holds its ends in their types: refusal 12
  link_holds : (e : Event) → event_refusal S lent g e ≡ none → (l : Link) → l ∈ g.links → T (not (goes_with e l)) → Leaves e l.source (source_type relationships l.relationship) × Leaves e l.target (target_type relationships l.relationship)
  unfolding checks known_event needs_type type_needed
  link_holds (insert id t) ok l m n = ((tt, tt), (tt, tt))
  link_holds (delete id) ok l m n =
      let apart = or_no (eqb l.source id) (eqb l.target id) n in
      ((not_and_left (eqb l.source id) _ apart.0, tt), (not_and_left (eqb l.target id) _ apart.1, tt))
  link_holds (set id k v) ok l m n = ((tt, tt), (tt, tt))
  link_holds (join r a b) ok l m n = ((tt, tt), (tt, tt))
  link_holds (part r a b) ok l m n = ((tt, tt), (tt, tt))
  link_holds (special id t) ok l m n = ((tt, tt), (tt, tt))
  link_holds (general id t) ok l m stays =
      let n = or_no (needs l.source (source_type relationships l.relationship)) (needs l.target (target_type relationships l.relationship)) (any_none (needs_type S id t) (clear S lent g (general id t) ok).1.1.1.0 m) in
      ((tt, not_out l.source (source_type relationships l.relationship) n.0), (tt, not_out l.target (target_type relationships l.relationship) n.1))
    where
      needs : ℕ → ℕ → Bool
      needs x s = eqb x id && not (under types t s)

      not_out : (x s : ℕ) → T (not (needs x s)) → T (not (eqb x id && (is_under types g id s && not (under types t s))))
      not_out x s n =
          not_sub (eqb x id && (is_under types g id s && not (under types t s))) (needs x s)
          (λ y.
          let p = and_yes (eqb x id) _ y in
          yes_and (eqb x id) (not (under types t s)) p.0 (and_yes (is_under types g id s) (not (under types t s)) p.1).1)
          n

  old_link_fits : (e : Event) → event_refusal S lent g e ≡ none → (l : Link) → l ∈ g.links → T (not (goes_with e l)) → T (link_fits S (apply S e g) l)
  old_link_fits e ok l m n =
      let p = link_parts S g l (fits.links_fit l m) in
      let h = link_holds e ok l m n in
      link_whole S (apply S e g) l p.0 (
        under_stays e ok l.source (source_type relationships l.relationship) h.0.0 h.0.1 p.1.0,
        under_stays e ok l.target (target_type relationships l.relationship) h.1.0 h.1.1 p.1.1,
      )

  links_ascend_after : (e : Event) → Ascending (Before link_key) (apply S e g).links
  unfolding apply
  links_ascend_after (insert id t) = fits.links_ascend
  links_ascend_after (delete id) = ascending_keep (Before link_key) (λ l. not (ends_at id l)) g.links fits.links_ascend
  links_ascend_after (set id k v) = fits.links_ascend
  links_ascend_after (join r a b) = put_ascending link_key 3 (λ l. refl) (link_of r a b) g.links fits.links_ascend
  links_ascend_after (part r a b) = ascending_keep (Before link_key) (λ l. not (same_link (link_of r a b) l)) g.links fits.links_ascend
  links_ascend_after (special id t) = fits.links_ascend
  links_ascend_after (general id t) = fits.links_ascend

  new_link_fits : (r a b : ℕ) → event_refusal S lent g (join r a b) ≡ none → T (link_fits S (apply S (join r a b) g) (link_of r a b))
  unfolding apply checks known_event is_under object_at
  new_link_fits r a b ok =
      let c = clear S lent g (join r a b) ok in
      link_whole S (apply S (join r a b) g) (link_of r a b)
      (and_yes (known_relationship relationships r) (valid_id a) (both (known_relationship relationships r && valid_id a) (valid_id b) c.0).0).0
      (both (is_under types g a (source_type relationships r)) (is_under types g b (target_type relationships r)) c.1.1.1.0)

  links_fit_after : (e : Event) → event_refusal S lent g e ≡ none → (l : Link) → l ∈ (apply S e g).links → T (link_fits S (apply S e g) l)
  unfolding apply
  links_fit_after (insert id t) ok l m = old_link_fits (insert id t) ok l m tt
  links_fit_after (delete id) ok l m = let k = keep_from (λ l. not (ends_at id l)) g.links m in old_link_fits (delete id) ok l k.0 k.1
  links_fit_after (set id k v) ok l m = old_link_fits (set id k v) ok l m tt
  links_fit_after (join r a b) ok l m =
      ⊎_elim
      (λ (q : l ≡ link_of r a b). subst (λ k. T (link_fits S (apply S (join r a b) g) k)) (sym q) (new_link_fits r a b ok))
      (λ (n : l ∈ g.links). old_link_fits (join r a b) ok l n tt)
      (put_from link_key (link_of r a b) g.links m)
  links_fit_after (part r a b) ok l m = old_link_fits (part r a b) ok l (keep_from (λ l. not (same_link (link_of r a b) l)) g.links m).0 tt
  links_fit_after (special id t) ok l m = old_link_fits (special id t) ok l m tt
  links_fit_after (general id t) ok l m = old_link_fits (general id t) ok l m tt

  pub apply_fits : (e : Event) → event_refusal S lent g e ≡ none → RegisterFits S (apply S e g)
  apply_fits e ok =
      record {
        objects_ascend = objects_ascend_after e;
        objects_fit = objects_fit_after e ok;
        links_ascend = links_ascend_after e;
        links_fit = links_fit_after e ok;
      }

  -- ---- links

  -- an object that is there after a delete is not the deleted one
  not_deleted : (id x : ℕ) → T (present (apply S (delete id) g) x) → T (not (eqb x id))
  unfolding present
  not_deleted id x p = not_T (eqb x id) (λ e. rw (deleted_at g id S) at (subst (λ y. T (present (apply S (delete id) g) y)) (eqb_yes e) p))

  -- a link of the role from x is not at an end of a deleted object that is not x, and to which none of the role leads
  stays_apart : (r x id : ℕ) (l : Link) → T (starts_at r x l) → T (not (eqb x id)) → T (not (leads_to r x id l)) → T (not (ends_at id l))
  stays_apart r x id l s n far = not_T (ends_at id l) (λ t. apart (ends (forward r) t))
    where
      ends : (b : Bool) → T (ends_at id l) → T (eqb (cond b l.source l.target) id) ⊎ T (eqb (cond b l.target l.source) id)
      ends true t = or_yes (eqb l.source id) (eqb l.target id) t
      ends false t = ⊎_elim inr inl (or_yes (eqb l.source id) (eqb l.target id) t)

      apart : T (eqb (near_end r l) id) ⊎ T (eqb (far_end r l) id) → ⊥
      apart (inl t) = T_not (eqb x id) (subst (λ y. T (eqb y id)) (eqb_yes (and_yes (eqb l.relationship (relationship_of r)) (eqb (near_end r l) x) s).1) t) n
      apart (inr t) = T_not (leads_to r x id l) (yes_and (not (eqb x id)) _ n (yes_and (starts_at r x l) (eqb (far_end r l) id) s t)) far

  -- a link of the role from x, an object that is there after the event, which the event does not part
  pub link_stays : (e : Event) → event_refusal S lent g e ≡ none → (r x : ℕ) (l : Link) → T (present (apply S e g) x) → T (starts_at r x l) → T (not (parted r x (step_at g e))) → T (has_link g l) → T (has_link (apply S e g) l)
  unfolding apply has_link
  link_stays (insert id t) ok r x l p s n h = h
  link_stays (delete id) ok r x l p s n h =
      let m = link_in g l h in
      link_has (apply S (delete id) g) l
      (keep_in (λ l. not (ends_at id l)) m (stays_apart r x id l s (not_deleted id x p) (any_none (leads_to r x id) n m)))
  link_stays (set id k v) ok r x l p s n h = h
  link_stays (join q a b) ok r x l p s n h = link_has (apply S (join q a b) g) l (put_other link_key (link_of q a b) g.links (link_in g l h))
  link_stays (part q a b) ok r x l p s n h =
      link_has (apply S (part q a b) g) l
      (keep_in (λ l. not (same_link (link_of q a b) l)) (link_in g l h)
      (not_sub (same_link (link_of q a b) l) (starts_at r x (link_of q a b)) (λ t. subst (λ k. T (starts_at r x k)) (sym (same_link_lem (link_of q a b) l t)) s) (or_no (starts_at r x (link_of q a b)) false n).0))
  link_stays (special id t) ok r x l p s n h = h
  link_stays (general id t) ok r x l p s n h = h

  -- a link of the role from x, of which the test holds, and that the event does not join
  pub link_was : (e : Event) → event_refusal S lent g e ≡ none → (r x : ℕ) (test : Link → Bool) (l : Link) → T (starts_at r x l) → T (test l) → T (not (joined r x test (step_at g e))) → T (has_link (apply S e g) l) → T (has_link g l)
  unfolding apply has_link
  link_was (insert id t) ok r x test l s u n h = h
  link_was (delete id) ok r x test l s u n h =
      link_has g l (keep_from (λ l. not (ends_at id l)) g.links (link_in (apply S (delete id) g) l h)).0
  link_was (set id k v) ok r x test l s u n h = h
  link_was (join q a b) ok r x test l s u n h =
      ⊎_elim
      (λ (e : l ≡ link_of q a b).
      absurd (T_not (starts_at r x (link_of q a b) && test (link_of q a b)) (subst (λ k. T (starts_at r x k && test k)) e (yes_and (starts_at r x l) (test l) s u)) n))
      (λ (m : l ∈ g.links). link_has g l m)
      (put_from link_key (link_of q a b) g.links (link_in (apply S (join q a b) g) l h))
  link_was (part q a b) ok r x test l s u n h =
      link_has g l (keep_from (λ l. not (same_link (link_of q a b) l)) g.links (link_in (apply S (part q a b) g) l h)).0
  link_was (special id t) ok r x test l s u n h = h
  link_was (general id t) ok r x test l s u n h = h

  -- ---- cells

  pub cell_same : (e : Event) → event_refusal S lent g e ≡ none → (x t k : ℕ) → k < cells_of types t → T (is_under types g x t) → T (is_under types (apply S e g) x t) → T (not (sets_cell (eqb x) k (step_at g e))) → cell_at (apply S e g) x k ≡ cell_at g x k
  unfolding is_under cell_at
  cell_same e ok x t k h u v n = step (fate e ok x) v n
    where
      step : {f : Event} {after : Register} → Fate S g after x f → T (is_under types after x t) → T (not (sets_cell (eqb x) k (step_at g f))) → cell_at after x k ≡ cell_at g x k
      step (kept q) v n = rw (cell_at, q)
      step (came i j a b) v n = absurd (T_not (present g x) (under_present types g x t u) a)
      step (went b) v n = absurd (rw b at v)
      step (written {o} {k = j} {v = z} w j< f a b) v n =
          rw (cell_at, a, b) (get_or-set_other o.cells j k z (pos 0) (λ e. eqb_no (at_self (eqb j k) x n) (sym e)))
      step (lowered j l f a b) v n = rw (cell_at, a, b)
      step (raised {o} {t = s} j l a b) v n =
          let enough : cells_of types s ≤ length o.cells = rw (object_parts S o (found_fits x a)).cells_count (types_fit.cells_bound s) in
          rw (cell_at, a, b) (cleared_same (cells_of types s) k o.cells enough (lt_of_lt_of_le h (under_cells types types_fit s t (rw b at v))))

  -- ---- objects

  -- only an absent object is inserted
  pub insert_absent : (e : Event) → event_refusal S lent g e ≡ none → (x t : ℕ) → T (inserts_into types t (eqb x) (step_at g e)) → T (not (present g x))
  unfolding checks known_event
  insert_absent (insert id s) ok x t i =
      rw (eqb_yes {a = x} {b = id} (and_yes (eqb x id) (under types s t) i).0) (clear S lent g (insert id s) ok).1.0
  insert_absent (delete id) ok x t i = absurd i
  insert_absent (set id k v) ok x t i = absurd i
  insert_absent (join r a b) ok x t i = absurd i
  insert_absent (part r a b) ok x t i = absurd i
  insert_absent (special id s) ok x t i = absurd i
  insert_absent (general id s) ok x t i = absurd i

  -- only an object outside of a type is brought into it by a special
  pub special_outside : (e : Event) (x t : ℕ) → T (specialises_into types t (eqb x) (step_at g e)) → T (not (is_under types g x t))
  special_outside (insert id s) x t i = absurd i
  special_outside (delete id) x t i = absurd i
  special_outside (set id k v) x t i = absurd i
  special_outside (join r a b) x t i = absurd i
  special_outside (part r a b) x t i = absurd i
  special_outside (special id s) x t i =
      let h = and_yes (eqb x id) (under types s t && not (is_under types g id t)) i in
      rw (eqb_yes {a = x} {b = id} h.0) (and_yes (under types s t) (not (is_under types g id t)) h.1).1
  special_outside (general id s) x t i = absurd i

  -- an object that is there after a delete of it is another's
  pub delete_absent : (e : Event) → event_refusal S lent g e ≡ none → (x t : ℕ) → T (deletes_from types t (eqb x) (step_at g e)) → T (not (present (apply S e g) x))
  unfolding present
  delete_absent (insert id s) ok x t d = absurd d
  delete_absent (delete id) ok x t d =
      subst (λ y. T (not (present (apply S (delete id) g) y))) (sym (eqb_yes (and_yes (eqb x id) (is_under types g id t) d).0)) gone
    where
      gone : T (not (present (apply S (delete id) g) id))
      gone = rw (deleted_at g id S) tt
  delete_absent (set id k v) ok x t d = absurd d
  delete_absent (join r a b) ok x t d = absurd d
  delete_absent (part r a b) ok x t d = absurd d
  delete_absent (special id s) ok x t d = absurd d
  delete_absent (general id s) ok x t d = absurd d

  -- the limits on rows
  pub objects_limit : (e : Event) → event_refusal S lent g e ≡ none → length g.objects ≤ 1024 → length (apply S e g).objects ≤ 1024
  unfolding apply checks known_event
  objects_limit (insert id t) ok h =
      let room = leb_no {a = min max_objects lent.objects} {b = length g.objects} (clear S lent g (insert id t) ok).1.1.0 in
      let grown = length_put object_key (new_object id t) g.objects in
      omega (arith, room, grown)
  objects_limit (delete id) ok h = le_trans (length_keep (λ o. not (eqb o.id id)) g.objects) h
  objects_limit (set id k v) ok h = rw (length-map g.objects (λ o. cond (eqb o.id id) (with_cell k v o) o)) h
  objects_limit (join r a b) ok h = h
  objects_limit (part r a b) ok h = h
  objects_limit (special id t) ok h = rw (length-map g.objects (λ o. cond (eqb o.id id) (with_type t o) o)) h
  objects_limit (general id t) ok h = rw (length-map g.objects (λ o. cond (eqb o.id id) (with_higher_type types t o) o)) h
