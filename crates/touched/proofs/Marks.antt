-- A rule's marks and those of a batch share one where the batch touches the rule.
use Prim.Native.Nat.{ℕ, zero, suc, ◌+◌, ◌<◌}
use mathlib.Core.Path.{◌≡◌, refl, sym, ap, ap₂, subst, ◌∙◌}
use mathlib.Core.Logic.{⊎_elim}
use mathlib.Core.Bool.{Bool, true, false, ◌&&◌, ◌||◌, or-true}
use mathlib.Core.List.{List}
use native.Mathlib.Nat.{eq-or-lt_of_le}
use native.Mathlib.Numerals.{add-one}
use native.Mathlib.Omega.{arith}
use denote.Floats.{is_true}
use lib.Dec.{T}
use lib.ListN.{get_or}
use mir.Facts.{and_yes, or_yes}
use Rattle.meaning.specs.Lists.{any, ◌∈◌, same_list}
use Rattle.meaning.specs.Schema.{Schema}
use Rattle.meaning.specs.Forms.{Rule}
use Rattle.meaning.specs.Reach.{Change}
use Rattle.meaning.specs.EventList.{EventType, event_type_words, event_list, occurs, touched}
use Rattle.meaning.proofs.Lists.{any_of, any_cases}
use Rattle.meaning.proofs.Order.{same_list_refl, same_list_eq}
use Rattle.type_marks.specs.Marks.{places, words_at, marked}
use Rattle.event_marks.proofs.Bounds.{placed, place_of, place_found}
use Rattle.touched.specs.Shared.{shared_below, Occurring}

-- ---- truths

same_truth : (a b : Bool) → (T a → T b) → (T b → T a) → a ≡ b
same_truth true b to from = sym (is_true b (to tt))
same_truth false true to from = absurd (from tt)
same_truth false false to from = refl

-- ---- one place more

module _ (a b : List Bool) where
  pub shared_none : shared_below a b 0 ≡ false
  unfolding shared_below
  shared_none = refl

  pub shared_next : (place : ℕ) → shared_below a b place ≡ false → (get_or a place false && get_or b place false) ≡ false → shared_below a b (place + 1) ≡ false
  unfolding shared_below
  shared_next place e f = rw (add-one, e, f)

  -- a mark that is shared below the end
  pub shared_at : (place end : ℕ) → place < end → get_or a place false ≡ true → get_or b place false ≡ true → shared_below a b end ≡ true
  unfolding shared_below
  shared_at place zero h p q = absurd (omega arith)
  shared_at place (suc end) h p q =
      ⊎_elim
      (λ (e : place ≡ end). ap (λ m. shared_below a b end || m) (ap₂ ◌&&◌ (ap (λ k. get_or a k false) (sym e) ∙ p) (ap (λ k. get_or b k false) (sym e) ∙ q)) ∙ or-true (shared_below a b end))
      (λ (less : place < end). ap (λ m. m || (get_or a end false && get_or b end false)) (shared_at place end less p q))
      (eq-or-lt_of_le (omega arith))

  -- a mark that is shared has a place
  pub shared_from : (end : ℕ) → T (shared_below a b end) → (place : ℕ) × (place < end) × T (get_or a place false) × T (get_or b place false)
  unfolding shared_below
  shared_from zero t = absurd t
  shared_from (suc end) t =
      ⊎_elim
      (λ t. let (place, less, p, q) = shared_from end t in (place, omega arith, p, q))
      (λ t. let (p, q) = and_yes (get_or a end false) (get_or b end false) t in (end, omega arith, p, q))
      (or_yes (shared_below a b end) (get_or a end false && get_or b end false) t)

-- ---- a rule

module _ (S : Schema) (r : Rule) (in_place : (e : EventType) → e ∈ event_list S r → T (placed e)) (marks occurring : List Bool)
    (each : (place : ℕ) → place < places → get_or marks place false ≡ marked (event_list S r) place) (c : Change) (same : c.schema ≡ S) (known : Occurring c occurring) where
  abbrev es : List EventType
  es = event_list S r

  -- an event type that is listed and occurs is marked in both
  to_shared : T (any (occurs c) es) → T (shared_below marks occurring places)
  to_shared t =
      let (e, listed, happens) = any_cases (occurs c) es t in
      let (within, words) = place_found e (in_place e listed) in
      let place = place_of (event_type_words e) in
      let mark = any_of (λ e. same_list (event_type_words e) (words_at place)) listed (subst (λ k. T (same_list (event_type_words e) k)) words (same_list_refl (event_type_words e))) in
      subst T (sym (shared_at marks occurring place places within (each place within ∙ is_true _ mark) (known e place within words ∙ is_true _ happens))) tt

  from_shared : T (shared_below marks occurring places) → T (any (occurs c) es)
  from_shared t =
      let (place, within, mark, occurred) = shared_from marks occurring places t in
      let (e, listed, words) = any_cases (λ e. same_list (event_type_words e) (words_at place)) es (subst T (each place within) mark) in
      any_of (occurs c) listed (subst T (known e place within (same_list_eq (event_type_words e) (words_at place) words)) occurred)

  pub shared_touched : shared_below marks occurring places ≡ touched c r
  unfolding touched
  shared_touched = same_truth (shared_below marks occurring places) (any (occurs c) es) from_shared to_shared ∙ ap (λ S. any (occurs c) (event_list S r)) (sym same)
