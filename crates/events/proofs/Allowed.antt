-- An event that is not refused can have its effect, and the tables fit their schema after it as before.
use Prim.Native.Nat.{ℕ, ◌≤◌, ◌<◌, min}
use mathlib.Core.Path.{◌≡◌, refl, sym, ap, subst, ◌∙◌}
use mathlib.Core.Bool.{Bool, true, false, ◌&&◌, not, cond}
use mathlib.Core.List.{List, [], ◌∷◌}
use mathlib.Core.Option.{Option, none, some, some-ne-none}
use native.Mathlib.Nat.{le_trans}
use native.Mathlib.Omega.{arith}
use lib.Dec.{T, leb, ltb, eqb}
use lib.ListN.{length, length-map}
use mir.Facts.{and_yes, T_not, T_not-not, leb_no, ltb_yes}
use Rattle.meaning.specs.Limits.{max_objects, max_links, cell_count, valid_id, fits_word}
use Rattle.meaning.specs.Schema.{Schema, known_relationship}
use Rattle.meaning.specs.Register.{Link, Register, object_key, link_key, present, same_link, has_link}
use Rattle.meaning.specs.Events.{Event, insert, delete, set, join, part, special, general, Lent, link_of, new_object, with_cell, with_type, with_higher_type, ends_at, apply, Check, ◌when◌, first_met, known_event, checks, event_refusal}
use Rattle.meaning.proofs.Lists.{element_in, length_keep}
use Rattle.meaning.proofs.Order.{length_put}
use Rattle.meaning.proofs.Registers.{RegisterFits, link_parts}
use Rattle.meaning.proofs.Effects.{apply_fits}
use Rattle.rows.specs.Rows.{read_rows}
use Rattle.tables.specs.Columns.{object_row, link_row, register_of, no_event}
use Rattle.schema.proofs.Rows.{length_rows, row_there}
use Rattle.register.specs.Tables.{object_place, link_place}
use Rattle.register.proofs.Rows.{place_there}
use Rattle.event_effects.specs.Effects.{CanChange, RelationshipsLow, Can, Applied}
use Rattle.events.specs.Steps.{Ready}
use Rattle.event_refusals.proofs.Fields.{no_event_refused}
use Rattle.event_tests.proofs.Tests.{test_found, link_present, link_absent}

-- no check of the list is met
abbrev Unmet : List Check → Type 0
Unmet [] = Unit {0}
Unmet ((n when met) ∷ rest) = T (not met) × Unmet rest

unmet : (list : List Check) → first_met list ≡ none → Unmet list
unfolding first_met
unmet [] e = tt
unmet ((n when met) ∷ rest) e = step met (λ q. unmet rest q) e
  where
    step : (b : Bool) → (first_met rest ≡ none → Unmet rest) → cond b (some n) (first_met rest) ≡ none → T (not b) × Unmet rest
    step true below q = absurd (some-ne-none n q)
    step false below q = (tt, below q)

-- a row is left below the limit and the lent rows
room_left : (limit lent used count : ℕ) → used ≡ count → T (not (leb (min limit lent) used)) → (count < limit) × (count < lent)
room_left limit lent used count e t = let l : used < min limit lent = leb_no t in (omega arith, omega arith)

module _ (S : Schema) (lent : Lent) (n : ℕ) (objects : List ℕ) (m : ℕ) (links : List ℕ) (ready : Ready S lent n objects m links) where
  abbrev g : Register
  g = register_of n objects m links

  missing : (id : ℕ) → T (not (present g id)) → object_place n objects id ≡ none
  unfolding present
  missing id t = step (object_place n objects id) refl
    where
      step : (o : Option ℕ) → object_place n objects id ≡ o → object_place n objects id ≡ none
      step none e = e
      step (some i) e = absurd (T_not (present g id) (subst T (sym (test_found n objects (read_rows (link_row links) m) id (λ o. true) e)) tt) t)

  link_missing : (l : Link) → T (not (has_link g l)) → link_place m links l ≡ none
  link_missing l t = step (link_place m links l) refl
    where
      step : (o : Option ℕ) → link_place m links l ≡ o → link_place m links l ≡ none
      step none e = e
      step (some i) e = absurd (T_not (has_link g l) (subst T (sym (link_present (read_rows (object_row objects) n) m links l e)) tt) t)

  change : (id : ℕ) → T (not (not (present g id))) → CanChange n objects id
  change id t =
      record {
        ascend = ready.fits.objects_ascend;
        there = place_there n objects (read_rows (link_row links) m) id (T_not-not (present g id) t);
        lent = omega (arith, ready.objects_used, ready.objects_lent_lem);
      }

  -- a link that is there is one of a relationship of the schema
  relationships_low : RelationshipsLow m links
  unfolding known_relationship
  relationships_low i h =
      let l = link_row links i in
      let there = element_in (read_rows (link_row links) m) i (row_there (link_row links) m i h) in
      let known : l.relationship < length S.relationships = ltb_yes (link_parts S g l (ready.fits.links_fit l there)).0 in
      omega (arith, ready.relationships_few)

  pub can : (e : Event) → event_refusal S lent g e ≡ none → Can S.types n objects m links e
  unfolding Can event_refusal checks known_event
  can (insert id t) ok =
      let u = unmet (checks S lent g (insert id t)) ok in
      let left = room_left max_objects lent.objects (length (read_rows (object_row objects) n)) n (length_rows (object_row objects) n) u.1.1.0 in
      record { ascend = ready.fits.objects_ascend; absent = missing id u.1.0; few = left.0; room = omega (arith, left.1, ready.objects_lent_lem) }
  can (delete id) ok =
      let u = unmet (checks S lent g (delete id)) ok in
      record { object = change id u.1.0; lent = omega (arith, ready.links_used, ready.links_lent_lem); low = relationships_low }
  can (set id k v) ok =
      let u = unmet (checks S lent g (set id k v)) ok in
      let known = (and_yes (valid_id id && ltb k cell_count) (fits_word v) (T_not-not (valid_id id && ltb k cell_count && fits_word v) u.0)).0 in
      (change id u.1.0, ltb_yes (and_yes (valid_id id) (ltb k cell_count) known).1)
  can (join r a b) ok =
      let u = unmet (checks S lent g (join r a b)) ok in
      let left = room_left max_links lent.links (length (read_rows (link_row links) m)) m (length_rows (link_row links) m) u.1.1.1.1.0 in
      record { ascend = ready.fits.links_ascend; absent = link_missing (link_of r a b) u.1.1.0; few = left.0; room = omega (arith, left.1, ready.links_lent_lem) }
  can (part r a b) ok =
      let u = unmet (checks S lent g (part r a b)) ok in
      let l = link_of r a b in
      record {
        ascend = ready.fits.links_ascend;
        there = λ e. subst T (link_absent (read_rows (object_row objects) n) m links l e) (T_not-not (has_link g l) u.1.1.0);
        lent = omega (arith, ready.links_used, ready.links_lent_lem);
      }
  can (special id t) ok = let u = unmet (checks S lent g (special id t)) ok in change id u.1.0
  can (general id t) ok = let u = unmet (checks S lent g (general id t)) ok in (change id u.1.0, ready.types_fit.cells_bound t)

  -- what is no event is refused
  pub some_event : (e : Event) → event_refusal S lent g e ≡ none → e ≡ no_event → ⊥
  some_event e ok q = some-ne-none 7 (sym (ap (event_refusal S lent g) q ∙ no_event_refused S lent g) ∙ ok)

  -- ---- the tables fit after the event

  objects_before : length (read_rows (object_row objects) n) ≤ lent.objects
  objects_before = omega (arith, length_rows (object_row objects) n, ready.objects_used)

  links_before : length (read_rows (link_row links) m) ≤ lent.links
  links_before = omega (arith, length_rows (link_row links) m, ready.links_used)

  objects_within : (e : Event) → event_refusal S lent g e ≡ none → length (apply S e g).objects ≤ lent.objects
  unfolding apply event_refusal checks
  objects_within (insert id t) ok =
      let u = unmet (checks S lent g (insert id t)) ok in
      let left = room_left max_objects lent.objects (length (read_rows (object_row objects) n)) n (length_rows (object_row objects) n) u.1.1.0 in
      omega (arith, left.1, length_rows (object_row objects) n, length_put object_key (new_object id t) (read_rows (object_row objects) n))
  objects_within (delete id) ok = le_trans (length_keep (λ o. not (eqb o.id id)) (read_rows (object_row objects) n)) objects_before
  objects_within (set id k v) ok = rw (length-map (read_rows (object_row objects) n) (λ o. cond (eqb o.id id) (with_cell k v o) o)) objects_before
  objects_within (join r a b) ok = objects_before
  objects_within (part r a b) ok = objects_before
  objects_within (special id t) ok = rw (length-map (read_rows (object_row objects) n) (λ o. cond (eqb o.id id) (with_type t o) o)) objects_before
  objects_within (general id t) ok = rw (length-map (read_rows (object_row objects) n) (λ o. cond (eqb o.id id) (with_higher_type S.types t o) o)) objects_before

  links_within : (e : Event) → event_refusal S lent g e ≡ none → length (apply S e g).links ≤ lent.links
  unfolding apply event_refusal checks
  links_within (insert id t) ok = links_before
  links_within (delete id) ok = le_trans (length_keep (λ l. not (ends_at id l)) (read_rows (link_row links) m)) links_before
  links_within (set id k v) ok = links_before
  links_within (join r a b) ok =
      let u = unmet (checks S lent g (join r a b)) ok in
      let left = room_left max_links lent.links (length (read_rows (link_row links) m)) m (length_rows (link_row links) m) u.1.1.1.1.0 in
      omega (arith, left.1, length_rows (link_row links) m, length_put link_key (link_of r a b) (read_rows (link_row links) m))
  links_within (part r a b) ok = le_trans (length_keep (λ l. not (same_link (link_of r a b) l)) (read_rows (link_row links) m)) links_before
  links_within (special id t) ok = links_before
  links_within (general id t) ok = links_before

  -- so the next event meets tables of the same kind
  pub ready_after : (e : Event) → event_refusal S lent g e ≡ none → {n' : ℕ} {objects' : List ℕ} {m' : ℕ} {links' : List ℕ} → Applied S e n objects m links n' objects' m' links' → Ready S lent n' objects' m' links'
  ready_after e ok {n'} {objects'} {m'} {links'} a =
      let objects_now : n' ≡ length (apply S e g).objects = sym (length_rows (object_row objects') n') ∙ ap (λ h. length h.objects) a.effect in
      let links_now : m' ≡ length (apply S e g).links = sym (length_rows (link_row links') m') ∙ ap (λ h. length h.links) a.effect in
      record {
        types_fit = ready.types_fit;
        relationships_few = ready.relationships_few;
        fits = subst (RegisterFits S) (sym a.effect) (apply_fits S ready.types_fit lent g ready.fits e ok);
        objects_lent_lem = omega (arith, a.objects_length, ready.objects_lent_lem);
        links_lent_lem = omega (arith, a.links_length, ready.links_lent_lem);
        objects_used = omega (arith, objects_now, objects_within e ok);
        links_used = omega (arith, links_now, links_within e ok);
      }
