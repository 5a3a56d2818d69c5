-- Marks added to marks, and the place of an event type's words.
use Prim.Native.Nat.{ℕ, zero, suc, ◌+◌, ◌*◌, ◌/◌, ◌%◌, ◌≤◌, ◌<◌}
use mathlib.Core.Path.{◌≡◌, refl, sym, ap, ap₂, ◌∙◌}
use mathlib.Core.Bool.{Bool, true, false, ◌&&◌, ◌||◌, not, cond, or-false, or-true, or_assoc, or_self, and-false}
use mathlib.Core.List.{List, [], ◌∷◌}
use native.Mathlib.Omega.{arith}
use lib.Dec.{T, eqb}
use lib.ListN.{length, get_or, set, length-set}
use lib.Seq.{get_or-set_same, get_or-set_other}
use mir.Facts.{and_yes, eqb_yes}
use borrow.Author.Tests.{eq-eqb, eqb-true, eqb-false}
use Rattle.meaning.specs.Lists.{same_list}
use Rattle.meaning.specs.Schema.{Schema, has_parent}
use Rattle.meaning.specs.Reach.{Direction, up, down}
use Rattle.meaning.specs.EventList.{EventType, special_of, general_of, event_type_words, where_parent, all_lists, kind_lists}
use Rattle.directions.specs.Sets.{has, some_of}
use Rattle.type_marks.specs.Marks.{places, words_at, marked, Added}
use Rattle.quietness.specs.declared.quiet.Still.{Still}
use Rattle.type_marks.specs.Lists.{marked_by, type_lists, entry_lists}

pub added_none : (before : List Bool) → Added before before (λ place. false)
added_none before = record { long = refl; each = λ place h. sym (or-false (get_or before place false)) }

pub added_then : {a b c : List Bool} {f g : ℕ → Bool} → Added a b f → Added b c g → Added a c (λ place. f place || g place)
added_then {a} {b} {c} {f} {g} r s =
    record {
      long = s.long ∙ r.long;
      each = λ place h. s.each place h ∙ ap (λ x. x || g place) (r.each place h) ∙ or_assoc (get_or a place false) (f place) (g place);
    }

pub added_as : {a b : List Bool} {f g : ℕ → Bool} → Added a b f → ((place : ℕ) → place < places → f place ≡ g place) → Added a b g
added_as {a} r same = record { long = r.long; each = λ place h. r.each place h ∙ ap (λ x. get_or a place false || x) (same place h) }

-- two event types, each listed on a condition, if both are
both_listed : (u v w a b : Bool) → (((u && v) && a) || ((u && w) && b)) ≡ (u && ((v && a) || (w && b)))
both_listed true v w a b = refl
both_listed false v w a b = refl

pub added_both : {a b c : List Bool} {r s : Bool} (u v w : Bool) (f g : ℕ → Bool) → Added a b (λ place. r && f place) → Added b c (λ place. s && g place) → r ≡ (u && v) → s ≡ (u && w) → Added a c (λ place. u && ((v && f place) || (w && g place)))
added_both u v w f g first second p q =
    added_as (added_then first second) (λ place h. (λ i. (p i && f place) || (q i && g place)) ∙ both_listed u v w (f place) (g place))

-- the test of three words at each place
abbrev pub words_marked : ℕ → ℕ → ℕ → ℕ → Bool
words_marked kind number cell place = same_list (kind ∷ number ∷ cell ∷ []) (words_at place)

-- what is listed up, and what is listed down
pub added_set : {a b c : List Bool} {r s : Bool} (f g : ℕ → Bool) (set : ℕ) (listed : Direction → List EventType)
    → Added a b (λ place. r && f place)
    → Added b c (λ place. s && g place)
    → r ≡ has set up
    → s ≡ has set down
    → ((place : ℕ) → f place ≡ marked (listed up) place)
    → ((place : ℕ) → g place ≡ marked (listed down) place)
    → Added a c (marked_by set listed)
added_set f g set listed first second p q up_is down_is =
    added_as (added_then first second) (λ place h i. (p i && up_is place i) || (q i && down_is place i))

-- where nothing is listed, no direction lists anything
pub none_listed : (set : ℕ) → false ≡ some_of set (λ d. false)
none_listed set = sym (ap₂ ◌||◌ (and-false (has set up)) (and-false (has set down)))

-- the same lists in each direction
pub added_lists : {a b : List Bool} (set : ℕ) (listed others : Direction → List EventType) → Added a b (marked_by set listed) → ((d : Direction) → listed d ≡ others d) → Added a b (marked_by set others)
added_lists set listed others r same = added_as r (λ place h i. (has set up && marked (same up i) place) || (has set down && marked (same down i) place))

-- of a set of directions, an event type that moves either way
pub any_way : (set : ℕ) (b : Bool) → set < 4 → (not (eqb set 0) && b) ≡ some_of set (λ d. b || false)
any_way zero b h = refl
any_way (suc zero) b h = sym (or-false (b || false) ∙ or-false b)
any_way (suc (suc zero)) b h = sym (or-false b)
any_way (suc (suc (suc zero))) b h = sym (ap₂ ◌||◌ (or-false b) (or-false b) ∙ or_self b)
any_way (suc (suc (suc (suc set)))) b h = absurd (omega arith)

-- an event type that is listed where the type has a parent
pub parent_marked : (S : Schema) (t : ℕ) (e : EventType) (place : ℕ) → marked (where_parent S t e) place ≡ (has_parent S.types t && same_list (event_type_words e) (words_at place))
unfolding where_parent
parent_marked S t e place = step (has_parent S.types t)
  where
    step : (b : Bool) → marked (cond b (e ∷ []) []) place ≡ (b && same_list (event_type_words e) (words_at place))
    step true = or-false (same_list (event_type_words e) (words_at place))
    step false = refl

-- what brings an object into a type, and what takes one out
module _ (S : Schema) (whole parent : Bool) (t : ℕ) (is : parent ≡ has_parent S.types t) (place : ℕ) where
  abbrev either_kind : ℕ → ℕ → Bool
  either_kind coming changing = (whole && same_list (coming ∷ t ∷ 0 ∷ []) (words_at place)) || (parent && same_list (changing ∷ t ∷ 0 ∷ []) (words_at place))

  pub type_up : either_kind 0 5 ≡ marked (type_lists S whole t up) place
  unfolding all_lists kind_lists event_type_words
  type_up = (λ i. (whole && same_list (0 ∷ t ∷ 0 ∷ []) (words_at place)) || (is i && same_list (5 ∷ t ∷ 0 ∷ []) (words_at place))) ∙ step whole
    where
      step : (b : Bool) → ((b && same_list (0 ∷ t ∷ 0 ∷ []) (words_at place)) || (has_parent S.types t && same_list (5 ∷ t ∷ 0 ∷ []) (words_at place))) ≡ marked (type_lists S b t up) place
      step true = ap (λ x. same_list (0 ∷ t ∷ 0 ∷ []) (words_at place) || x) (sym (parent_marked S t (special_of t) place))
      step false = sym (parent_marked S t (special_of t) place)

  pub type_down : either_kind 1 6 ≡ marked (type_lists S whole t down) place
  unfolding all_lists kind_lists event_type_words
  type_down = (λ i. (whole && same_list (1 ∷ t ∷ 0 ∷ []) (words_at place)) || (is i && same_list (6 ∷ t ∷ 0 ∷ []) (words_at place))) ∙ step whole
    where
      step : (b : Bool) → ((b && same_list (1 ∷ t ∷ 0 ∷ []) (words_at place)) || (has_parent S.types t && same_list (6 ∷ t ∷ 0 ∷ []) (words_at place))) ≡ marked (type_lists S b t down) place
      step true = ap (λ x. same_list (1 ∷ t ∷ 0 ∷ []) (words_at place) || x) (sym (parent_marked S t (general_of t) place))
      step false = sym (parent_marked S t (general_of t) place)

-- what brings an object into a context type, each unless it is still
pub entry_marked : (S : Schema) (still : Still) (t : ℕ) {changing : Bool} → changing ≡ (not still.special && has_parent S.types t) → (place : ℕ)
    → ((not still.insert && same_list (0 ∷ t ∷ 0 ∷ []) (words_at place)) || (changing && same_list (5 ∷ t ∷ 0 ∷ []) (words_at place))) ≡ marked (entry_lists S still t) place
unfolding event_type_words
entry_marked S still t is place = ap (λ b. (not still.insert && inserting) || (b && specialising)) is ∙ step still.insert still.special
  where
    inserting : Bool
    inserting = same_list (0 ∷ t ∷ 0 ∷ []) (words_at place)

    specialising : Bool
    specialising = same_list (5 ∷ t ∷ 0 ∷ []) (words_at place)

    step : (insert special : Bool) → ((not insert && inserting) || ((not special && has_parent S.types t) && specialising)) ≡ marked (entry_lists S (record { insert = insert; special = special }) t) place
    step true true = refl
    step true false = sym (parent_marked S t (special_of t) place)
    step false true = refl
    step false false = ap (λ x. inserting || x) (sym (parent_marked S t (special_of t) place))

-- ---- the place of words

module _ (kind number cell place : ℕ) where
  abbrev named : Bool
  named = same_list (kind ∷ number ∷ cell ∷ []) (words_at place)

  pub named_is : T named → (kind ≡ place / 256) × (number ≡ place / 8 % 32) × (cell ≡ place % 8)
  named_is t =
      let a = and_yes (eqb kind (place / 256)) _ t in
      let b = and_yes (eqb number (place / 8 % 32)) _ a.1 in
      let c = and_yes (eqb cell (place % 8)) true b.1 in
      (eqb_yes a.0, eqb_yes b.0, eqb_yes c.0)

  -- words that are at no place
  pub named_none : (named ≡ true → ⊥) → named ≡ false
  named_none never = step named refl
    where
      step : (b : Bool) → named ≡ b → named ≡ false
      step true e = absurd (never e)
      step false e = e

  pub named_high : 32 ≤ number → named ≡ false
  named_high h = named_none (λ e. let w = named_is (rw e tt) in omega arith)

  pub named_deep : 8 ≤ cell → named ≡ false
  named_deep h = named_none (λ e. let w = named_is (rw e tt) in omega arith)

pub added_one : (before : List Bool) (kind number cell : ℕ) → length before ≡ places → kind < 7 → number < 32 → cell < 8
    → Added before (set before ((kind * 32 + number) * 8 + cell) true) (λ place. same_list (kind ∷ number ∷ cell ∷ []) (words_at place))
added_one before kind number cell long a b c =
    record { long = length-set before at true; each = λ place h. at_place place (eqb at place) refl }
  where
    at : ℕ
    at = (kind * 32 + number) * 8 + cell

    same : ℕ → Bool
    same place = same_list (kind ∷ number ∷ cell ∷ []) (words_at place)

    at_place : (place : ℕ) (b : Bool) → eqb at place ≡ b → get_or (set before at true) place false ≡ (get_or before place false || same place)
    at_place place true e =
        let q : at ≡ place = eqb-true at place e in
        let hit : same place ≡ true = rw (eq-eqb kind (place / 256) (omega arith), eq-eqb number (place / 8 % 32) (omega arith), eq-eqb cell (place % 8) (omega arith)) in
        ap (λ k. get_or (set before at true) k false) (sym q)
        ∙ get_or-set_same before at true false (omega arith)
        ∙ sym (or-true (get_or before place false))
        ∙ ap (λ x. get_or before place false || x) (sym hit)
    at_place place false e =
        let other = eqb-false at place e in
        get_or-set_other before at place true false (λ q. other (sym q))
        ∙ sym (or-false (get_or before place false))
        ∙ ap (λ x. get_or before place false || x) (sym (named_none kind number cell place (λ t. let w = named_is kind number cell place (rw t tt) in other (omega arith))))
