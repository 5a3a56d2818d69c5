-- What a register without refusal 5 is, and how its objects, links and collections are found in it.
use Prim.Native.Nat.{ℕ, ◌<◌}
use mathlib.Core.Path.{◌≡◌, sym, subst, ◌∙◌}
use mathlib.Core.Bool.{Bool, true, false, ◌&&◌, not, cond}
use mathlib.Core.List.Memᴰ
use mathlib.Core.List.{List, [], ◌∷◌}
use mathlib.Core.Option.{none, some}
use lib.Dec.{T, eqb, eqb_refl}
use lib.ListN.{length, get_or, drop}
use mir.Facts.{and_yes, yes_and, eqb_yes, yes_eqb}
use Rattle.meaning.specs.Lists.{every, keep, before, ◌∈◌, Ascending, Before}
use Rattle.meaning.specs.Limits.{cell_count, valid_id, fits_word}
use Rattle.meaning.specs.Schema.{ObjectType, Schema, known_type, known_relationship, cells_of, relationship_of, forward, source_type, target_type, near_type, far_type, under}
use Rattle.meaning.specs.Register.{Object, Link, Register, object_key, link_key, object_at, present, is_under, instances, same_link, has_link, near_end, far_end, starts_at, far_ends, is_zero, cells_fit, below_floor, object_fits, faulty_object, link_fits, faulty_link, object_fault, link_fault}
use Rattle.meaning.proofs.Lists.{first_only, ascending_one, holds_some, any_of, any_cases, keep_in, keep_from, first_some, ascending_keep, ascending_map}
use Rattle.meaning.proofs.Order.{before_one, before_last, before_first, before_irreflexive, same_list_eq, same_list_refl, rows_fit, fits_rows}

pub record RegisterFits (S : Schema) (g : Register) : Type 0 where
  pub objects_ascend : Ascending (Before object_key) g.objects
  pub objects_fit : (o : Object) → o ∈ g.objects → T (object_fits S.types S.floors o)
  pub links_ascend : Ascending (Before link_key) g.links
  pub links_fit : (l : Link) → l ∈ g.links → T (link_fits S g l)

pub register_fits : (S : Schema) (g : Register) → object_fault S.types S.floors g ≡ none → link_fault S g ≡ none → RegisterFits S g
unfolding object_fault link_fault faulty_object faulty_link
register_fits S g e f =
    let o = rows_fit object_key (object_fits S.types S.floors) g.objects e in
    let l = rows_fit link_key (link_fits S g) g.links f in
    record { objects_ascend = o.0; objects_fit = o.1; links_ascend = l.0; links_fit = l.1 }

pub fits_register : (S : Schema) (g : Register) → RegisterFits S g → (object_fault S.types S.floors g ≡ none) × (link_fault S g ≡ none)
unfolding object_fault link_fault faulty_object faulty_link
fits_register S g r = (
  fits_rows object_key (object_fits S.types S.floors) g.objects r.objects_ascend r.objects_fit,
  fits_rows link_key (link_fits S g) g.links r.links_ascend r.links_fit,
)

-- ---- objects

-- what `object_fits` tests, part by part
pub record ObjectFits (S : Schema) (o : Object) : Type 0 where
  pub id_valid : T (valid_id o.id)
  pub type_known : T (known_type S.types o.type)
  pub cells_count : length o.cells ≡ cell_count
  pub cells_word : T (every fits_word o.cells)
  pub cells_zero : T (every is_zero (drop (cells_of S.types o.type) o.cells))
  pub floors_kept : T (not (below_floor S.types S.floors o.type o.cells))

pub object_parts : (S : Schema) (o : Object) → T (object_fits S.types S.floors o) → ObjectFits S o
unfolding object_fits cells_fit
object_parts S o t =
    let types = S.types in
    let count = eqb (length o.cells) cell_count in
    let zero = every is_zero (drop (cells_of types o.type) o.cells) in
    let floors = and_yes (valid_id o.id && known_type types o.type && (count && every fits_word o.cells && zero)) (not (below_floor S.types S.floors o.type o.cells)) t in
    let whole = and_yes (valid_id o.id && known_type types o.type) (count && every fits_word o.cells && zero) floors.0 in
    let head = and_yes (valid_id o.id) (known_type types o.type) whole.0 in
    let cells = and_yes (count && every fits_word o.cells) zero whole.1 in
    let words = and_yes count (every fits_word o.cells) cells.0 in
    record { id_valid = head.0; type_known = head.1; cells_count = eqb_yes words.0; cells_word = words.1; cells_zero = cells.1; floors_kept = floors.1 }

pub object_whole : (S : Schema) (o : Object) → ObjectFits S o → T (object_fits S.types S.floors o)
unfolding object_fits cells_fit
object_whole S o f =
    let types = S.types in
    let count = eqb (length o.cells) cell_count in
    let zero = every is_zero (drop (cells_of types o.type) o.cells) in
    yes_and (valid_id o.id && known_type types o.type && (count && every fits_word o.cells && zero)) (not (below_floor S.types S.floors o.type o.cells))
    (yes_and (valid_id o.id && known_type types o.type) (count && every fits_word o.cells && zero)
    (yes_and (valid_id o.id) (known_type types o.type) f.id_valid f.type_known)
    (yes_and (count && every fits_word o.cells) zero (yes_and count (every fits_word o.cells) (yes_eqb f.cells_count) f.cells_word) f.cells_zero))
    f.floors_kept

pub object_at_lem : (g : Register) (x : ℕ) {o : Object} → object_at g x ≡ some o → (o ∈ g.objects) × (o.id ≡ x)
unfolding object_at
object_at_lem g x e = let r = first_some (λ o. eqb o.id x) g.objects e in (r.0, eqb_yes r.1)

-- no id twice
object_one : (l : List Object) → Ascending (Before object_key) l → {x y : Object} → x ∈ l → y ∈ l → x.id ≡ y.id → x ≡ y
object_one l a {x} {y} m n e = ascending_one (Before object_key) l a m n (differ x y e) (differ y x (sym e))
  where
    differ : (v w : Object) → v.id ≡ w.id → ¬ Before object_key v w
    differ v w q t = before_irreflexive (object_key w) (subst (λ i. T (before (i ∷ []) (object_key w))) q t)

pub ascending_found : (g : Register) → Ascending (Before object_key) g.objects → {o : Object} → o ∈ g.objects → object_at g o.id ≡ some o
unfolding object_at
ascending_found g a {o} m =
    first_only (λ y. eqb y.id o.id) g.objects m (eqb_refl o.id) (λ y n t. object_one g.objects a n m (eqb_yes t))

-- an object under some type is there
pub under_present : (types : List ObjectType) (g : Register) (x t : ℕ) → T (is_under types g x t) → T (present g x)
unfolding is_under present
under_present types g x t u = rw (holds_some (λ o. under types o.type t) (object_at g x) u).1 tt

-- ---- links

pub same_link_lem : (l k : Link) → T (same_link l k) → l ≡ k
same_link_lem l k t =
    let e = same_list_eq (link_key l) (link_key k) t in
    λ i. record { relationship = get_or (e i) 0 0; source = get_or (e i) 1 0; target = get_or (e i) 2 0 }

pub link_in : (g : Register) (l : Link) → T (has_link g l) → l ∈ g.links
unfolding has_link
link_in g l t = let r = any_cases (same_link l) g.links t in Memᴰ.cast (same_link_lem l r.0 r.2) r.1

pub link_has : (g : Register) (l : Link) → l ∈ g.links → T (has_link g l)
unfolding has_link
link_has g l m = any_of (same_link l) m (same_list_refl (link_key l))

-- ---- collections

pub instance_in : (types : List ObjectType) (g : Register) (x t : ℕ) → T (is_under types g x t) → x ∈ instances types g t
unfolding is_under instances
instance_in types g x t u =
    let o = holds_some (λ o. under types o.type t) (object_at g x) u in
    let r = object_at_lem g x o.1 in
    Memᴰ.cast (sym r.1) (Memᴰ.map (λ (o : Object). o.id) (keep_in (λ o. under types o.type t) r.0 o.2))

pub instance_from : (types : List ObjectType) (g : Register) → Ascending (Before object_key) g.objects → (x t : ℕ) → x ∈ instances types g t → T (is_under types g x t)
unfolding is_under instances
instance_from types g a x t m =
    let o = Memᴰ.of_map (λ (o : Object). o.id) (keep (λ o. under types o.type t) g.objects) m in
    let k = keep_from (λ o. under types o.type t) g.objects o.1 in
    rw (← o.2) (rw (ascending_found g a k.0) k.1)

pub instances_ascend : (types : List ObjectType) (g : Register) → Ascending (Before object_key) g.objects → (t : ℕ) → Ascending ◌<◌ (instances types g t)
unfolding instances
instances_ascend types g a t =
    ascending_map (λ (o : Object). o.id) (Before object_key) ◌<◌ (keep (λ o. under types o.type t) g.objects)
    (λ x y m n b. before_one x.id y.id b)
    (ascending_keep (Before object_key) (λ o. under types o.type t) g.objects a)

pub far_in : (g : Register) (r u : ℕ) (l : Link) → T (has_link g l) → T (starts_at r u l) → far_end r l ∈ far_ends g r u
unfolding far_ends
far_in g r u l h s = Memᴰ.map (far_end r) (keep_in (starts_at r u) (link_in g l h) s)

pub far_from : (g : Register) (r u x : ℕ) → x ∈ far_ends g r u → (l : Link) × T (has_link g l) × T (starts_at r u l) × (x ≡ far_end r l)
unfolding far_ends
far_from g r u x m =
    let l = Memᴰ.of_map (far_end r) (keep (starts_at r u) g.links) m in
    let k = keep_from (starts_at r u) g.links l.1 in
    (l.0, link_has g l.0 k.0, k.1, sym l.2)

-- what a link of a role from u has
starts : (r u : ℕ) (l : Link) → T (starts_at r u l) → (l.relationship ≡ relationship_of r) × (near_end r l ≡ u)
starts r u l s = let h = and_yes (eqb l.relationship (relationship_of r)) (eqb (near_end r l) u) s in (eqb_yes h.0, eqb_yes h.1)

pub far_ends_ascend : (S : Schema) (g : Register) → RegisterFits S g → (r u : ℕ) → Ascending ◌<◌ (far_ends g r u)
unfolding far_ends
far_ends_ascend S g f r u =
    ascending_map (far_end r) (Before link_key) ◌<◌ (keep (starts_at r u) g.links)
    (λ x y m n. lower x y (starts r u x (keep_from (starts_at r u) g.links m).1) (starts r u y (keep_from (starts_at r u) g.links n).1))
    (ascending_keep (Before link_key) (starts_at r u) g.links f.links_ascend)
  where
    by_end : (x y : Link) (b : Bool) → cond b x.source x.target ≡ cond b y.source y.target → T (before (x.source ∷ x.target ∷ []) (y.source ∷ y.target ∷ [])) → cond b x.target x.source < cond b y.target y.source
    by_end x y true e t = before_one x.target y.target (before_last x.source y.source (x.target ∷ []) (y.target ∷ []) e t)
    by_end x y false e t = before_first x.source y.source x.target y.target e t

    lower : (x y : Link) → (x.relationship ≡ relationship_of r) × (near_end r x ≡ u) → (y.relationship ≡ relationship_of r) × (near_end r y ≡ u) → Before link_key x y → far_end r x < far_end r y
    lower x y p q t =
        by_end x y (forward r) (p.1 ∙ sym q.1)
        (before_last x.relationship y.relationship (x.source ∷ x.target ∷ []) (y.source ∷ y.target ∷ []) (p.0 ∙ sym q.0) t)

-- the objects at the ends of a link are there and of the ends' types
abbrev pub EndsUnder : Schema → Register → Link → Type 0
EndsUnder S g l =
    T (is_under S.types g l.source (source_type S.relationships l.relationship))
    × T (is_under S.types g l.target (target_type S.relationships l.relationship))

pub link_parts : (S : Schema) (g : Register) (l : Link) → T (link_fits S g l) → T (known_relationship S.relationships l.relationship) × EndsUnder S g l
unfolding link_fits
link_parts S g l t =
    let source = is_under S.types g l.source (source_type S.relationships l.relationship) in
    let whole = and_yes (known_relationship S.relationships l.relationship && source) (is_under S.types g l.target (target_type S.relationships l.relationship)) t in
    let head = and_yes (known_relationship S.relationships l.relationship) source whole.0 in
    (head.0, (head.1, whole.1))

pub link_whole : (S : Schema) (g : Register) (l : Link) → T (known_relationship S.relationships l.relationship) → EndsUnder S g l → T (link_fits S g l)
unfolding link_fits
link_whole S g l known e =
    let source = is_under S.types g l.source (source_type S.relationships l.relationship) in
    yes_and (known_relationship S.relationships l.relationship && source) (is_under S.types g l.target (target_type S.relationships l.relationship))
    (yes_and (known_relationship S.relationships l.relationship) source known e.0) e.1

pub far_under : (S : Schema) (g : Register) → RegisterFits S g → (r u : ℕ) (l : Link) → T (has_link g l) → T (starts_at r u l) → T (is_under S.types g (far_end r l) (far_type S.relationships r))
unfolding far_type
far_under S g f r u l h s = rw (← (starts r u l s).0) (step (forward r) (link_parts S g l (f.links_fit l (link_in g l h))).1)
  where
    step : (b : Bool) → EndsUnder S g l → T (is_under S.types g (cond b l.target l.source) (cond b (target_type S.relationships l.relationship) (source_type S.relationships l.relationship)))
    step true e = e.1
    step false e = e.0

pub near_under : (S : Schema) (g : Register) → RegisterFits S g → (r u : ℕ) (l : Link) → T (has_link g l) → T (starts_at r u l) → T (is_under S.types g u (near_type S.relationships r))
unfolding near_type
near_under S g f r u l h s =
    subst (λ x. T (is_under S.types g x (near_type S.relationships r))) (starts r u l s).1
    (rw (← (starts r u l s).0) (step (forward r) (link_parts S g l (f.links_fit l (link_in g l h))).1))
  where
    step : (b : Bool) → EndsUnder S g l → T (is_under S.types g (cond b l.source l.target) (cond b (source_type S.relationships l.relationship) (target_type S.relationships l.relationship)))
    step true e = e.0
    step false e = e.1

pub near_present : (S : Schema) (g : Register) → RegisterFits S g → (r u : ℕ) (l : Link) → T (has_link g l) → T (starts_at r u l) → T (present g u)
near_present S g f r u l h s = under_present S.types g u (near_type S.relationships r) (near_under S g f r u l h s)
