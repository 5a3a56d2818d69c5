-- The type that an event's object had when the event came: by the row that a search finds, and what it says of *under*.
use Prim.Native.Nat.{ℕ, zero, suc, ◌≤◌, ◌<◌}
use mathlib.Core.Path.{◌≡◌, refl, sym, ap, subst, ◌∙◌}
use mathlib.Core.Logic.{◌⊎◌, inl, inr, ⊎_elim}
use mathlib.Core.Bool.{◌&&◌}
use mathlib.Core.List.Memᴰ
use mathlib.Core.List.{List, [], ◌∷◌}
use mathlib.Core.Option.{Option, none, some, map}
use native.Mathlib.Nat.{le_refl}
use native.Mathlib.Omega.{arith}
use lib.Dec.{ltb}
use lib.ListN.{length, get_or}
use mir.Facts.{ltb_yes}
use borrow.Author.Tests.{lt-ltb}
use Rattle.meaning.specs.Limits.{max_types}
use Rattle.meaning.specs.Lists.{holds, ◌∈◌}
use Rattle.meaning.specs.Schema.{Schema, known_type, under}
use Rattle.meaning.specs.Register.{Object, Link, Register, object_at, is_under}
use Rattle.meaning.specs.Events.{Event, Lent, apply, batch_refusal}
use Rattle.meaning.specs.Reach.{Step, step_at, steps_of}
use Rattle.meaning.proofs.Schemas.{TypesFit}
use Rattle.meaning.proofs.Registers.{RegisterFits, object_at_lem, object_parts}
use Rattle.meaning.proofs.Effects.{apply_fits}
use Rattle.meaning.proofs.Steps.{Unrefused, unrefused}
use Rattle.tables.specs.Columns.{object_row, no_event, event_of}
use Rattle.register.specs.Tables.{objects_with, object_place}
use Rattle.register.proofs.Searches.{object_row_lem}
use Rattle.tables.specs.Met.{object_of, no_type, type_of, type_in, met_type, met_by}
use Rattle.event_refusals.proofs.Fields.{kind_unknown, kind_set, kind_join, kind_part, is_insert, is_delete, is_special, is_general}

module _ (n : ℕ) (objects : List ℕ) (ls : List Link) (id : ℕ) where
  typed : (o : Option ℕ) → object_place n objects id ≡ o → type_in (objects_with n objects ls) id ≡ type_of (map (object_row objects) o)
  unfolding type_in
  typed o e = ap type_of (object_row_lem n objects ls id ∙ ap (map (object_row objects)) e)

  pub type_found : {i : ℕ} → object_place n objects id ≡ some i → type_in (objects_with n objects ls) id ≡ (object_row objects i).type
  type_found {i} e = typed (some i) e

  pub type_missing : object_place n objects id ≡ none → type_in (objects_with n objects ls) id ≡ no_type
  type_missing e = typed none e

-- the type that an event meets is that of the object that it names
pub met_named : (g : Register) (e : Event) (id : ℕ) → object_of e ≡ some id → met_type g e ≡ type_in g id
unfolding met_type
met_named g e id q = ap (λ o. elim o [ none ↦ no_type | some x ↦ type_in g x ]) q

-- and an event that names none meets none
pub met_unnamed : (g : Register) (e : Event) → object_of e ≡ none → met_type g e ≡ no_type
unfolding met_type
met_unnamed g e q = ap (λ o. elim o [ none ↦ no_type | some x ↦ type_in g x ]) q

-- ---- the object that a row of the table of events names

pub no_object : {kind : ℕ} (x y z : ℕ) → (kind ≡ 3) ⊎ (kind ≡ 4) → object_of (event_of kind x y z) ≡ none
no_object x y z (inl e) = ap object_of (kind_join x y z e)
no_object x y z (inr e) = ap object_of (kind_part x y z e)

-- a row that is some event, and neither a join nor a part
pub first_named : (kind x y z : ℕ) → (event_of kind x y z ≡ no_event → ⊥) → (kind ≡ 3 → ⊥) → (kind ≡ 4 → ⊥) → object_of (event_of kind x y z) ≡ some x
first_named zero x y z d a b = ap object_of (is_insert x y z d refl)
first_named (suc zero) x y z d a b = ap object_of (is_delete x y z d refl)
first_named (suc (suc zero)) x y z d a b = ap object_of (kind_set x y z refl)
first_named (suc (suc (suc zero))) x y z d a b = absurd (a refl)
first_named (suc (suc (suc (suc zero)))) x y z d a b = absurd (b refl)
first_named (suc (suc (suc (suc (suc zero))))) x y z d a b = ap object_of (is_special x y z d refl)
first_named (suc (suc (suc (suc (suc (suc zero)))))) x y z d a b = ap object_of (is_general x y z d refl)
first_named (suc (suc (suc (suc (suc (suc (suc kind))))))) x y z d a b =
    absurd (d (kind_unknown x y z _ (λ e. omega arith) (λ e. omega arith) (λ e. omega arith) (λ e. omega arith) (λ e. omega arith) (λ e. omega arith) (λ e. omega arith)))

-- ---- what the type says of *under*

module _ (S : Schema) (few : length S.types ≤ max_types) (g : Register) (fits : RegisterFits S g) where
  -- an object that is there has a type of the schema
  known : (id : ℕ) {o : Object} → object_at g id ≡ some o → o.type < no_type
  unfolding known_type
  known id {o} e =
      let there = (object_parts S o (fits.objects_fit o (object_at_lem g id e).0)).type_known in
      let low : o.type < length S.types = ltb_yes there in
      omega arith

  pub type_low : (id : ℕ) → type_in g id ≤ no_type
  unfolding type_in
  type_low id = step (object_at g id) refl
    where
      step : (o : Option Object) → object_at g id ≡ o → type_of o ≤ no_type
      step none e = le_refl no_type
      step (some o) e = omega (arith, known id e)

  pub type_under : (id t : ℕ) → is_under S.types g id t ≡ (ltb (type_in g id) no_type && under S.types (type_in g id) t)
  unfolding is_under type_in
  type_under id t = step (object_at g id) refl
    where
      step : (o : Option Object) → object_at g id ≡ o → holds (λ x. under S.types x.type t) o ≡ (ltb (type_of o) no_type && under S.types (type_of o) t)
      step none e = refl
      step (some o) e = sym (ap (λ b. b && under S.types o.type t) (lt-ltb o.type no_type (known id e)))

  -- Where an event names an object, the object was under t when the event came exactly when the type that it met is one, and is under t.
  pub met_under_lem : (e : Event) (id : ℕ) → object_of e ≡ some id → (t : ℕ) → is_under S.types g id t ≡ (ltb (met_type g e) no_type && under S.types (met_type g e) t)
  met_under_lem e id q t =
      type_under id t ∙ ap (λ u. ltb u no_type && under S.types u t) (sym (met_named g e id q))

-- ---- of a batch, step by step

pub get_d_default : (l : List ℕ) (i : ℕ) → i < length l → (d e : ℕ) → get_or l i d ≡ get_or l i e
get_d_default [] i h d e = absurd (omega arith)
get_d_default (x ∷ xs) zero h d e = refl
get_d_default (x ∷ xs) (suc i) h d e = get_d_default xs i (omega arith) d e

pub length_steps : (S : Schema) (g : Register) (es : List Event) → length (steps_of S g es) ≡ length es
unfolding steps_of
length_steps S g [] = refl
length_steps S g (e ∷ es) = ap suc (length_steps S (apply S e g) es)

module _ (S : Schema) (types_fit : TypesFit S.types) (lent : Lent) where
  -- every step of a batch that is not refused met a register that fits
  pub step_fits : (g : Register) (es : List Event) → RegisterFits S g → Unrefused S lent g es → (s : Step) → s ∈ steps_of S g es → RegisterFits S s.met
  unfolding steps_of
  step_fits g [] f u s m = absurd (Memᴰ.not-nil m)
  step_fits g (e ∷ es) f u s m =
      ⊎_elim (λ (q : s ≡ step_at g e). subst (λ t. RegisterFits S t.met) (sym q) f)
      (λ k. step_fits (apply S e g) es (apply_fits S types_fit lent g f e u.0) u.1 s k) (Memᴰ.cases_cons m)

  -- so its met type says whether its object was under t
  pub step_under : length S.types ≤ max_types → (g : Register) (es : List Event) → RegisterFits S g → batch_refusal S lent g es ≡ none → (s : Step) → s ∈ steps_of S g es
      → (id : ℕ) → object_of s.event ≡ some id → (t : ℕ) → is_under S.types s.met id t ≡ (ltb (met_by s) no_type && under S.types (met_by s) t)
  step_under few g es f r s m id q t = met_under_lem S few s.met (step_fits g es f (unrefused S lent g es r) s m) s.event id q t
