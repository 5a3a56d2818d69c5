-- What is kept of each event: one event more.
use Prim.Native.Nat.{ℕ, zero, suc, ◌+◌, ◌<◌}
use mathlib.Core.Path.{◌≡◌, refl, sym, ap, ◌∙◌}
use mathlib.Core.Bool.{Bool, true, false, cond}
use mathlib.Core.Logic.{⊎_elim}
use mathlib.Core.List.{List}
use native.Mathlib.Nat.{eq-or-lt_of_le, le_of_suc-le-suc}
use native.Mathlib.Omega.{arith}
use lib.Dec.{eqb}
use lib.ListN.{length, get_or, set, length-set}
use lib.Seq.{get_or-set_same, get_or-set_other}
use Rattle.meaning.specs.Register.{Object, has_link}
use Rattle.meaning.specs.Events.{Event, insert, delete, set as sets, join, part, special, general, link_of}
use Rattle.tables.specs.Columns.{no_event, event_of, event_row}
use Rattle.register.specs.Tables.{links_with}
use Rattle.trace_places.specs.Traces.{there_word, met_word}
use Rattle.trace_places.specs.Making.{Kept}

-- ---- the words of a join

module _ (x y z r a b : ℕ) where
  pub record JoinWords (kind : ℕ) : Type 0 where
    pub kind_is : kind ≡ 3
    pub same : link_of x y z ≡ link_of r a b

  other_event : (e : Event) → e ≡ join r a b → (one : Event → ℕ) → one e ≡ 0 → one (join r a b) ≡ 1 → {A : Type 0} → A
  other_event e q one u v = let z : ◌≡◌ {A = ℕ} 0 1 = sym u ∙ ap one q ∙ v in absurd (omega arith)

  -- 1 for a join
  abbrev join_mark : Event → ℕ
  join_mark (insert id t) = 0
  join_mark (delete id) = 0
  join_mark (sets id k v) = 0
  join_mark (join n s t) = 1
  join_mark (part n s t) = 0
  join_mark (special id t) = 0
  join_mark (general id t) = 0

  unmarked : (e : Event) → join_mark e ≡ 0 → (c : Bool) → join_mark (cond c e no_event) ≡ 0
  unmarked e h true = h
  unmarked e h false = refl

  pub join_words : (kind : ℕ) → event_of kind x y z ≡ join r a b → JoinWords kind
  unfolding event_of
  join_words zero e = other_event _ e join_mark (unmarked (insert x y) refl (eqb z 0)) refl
  join_words (suc zero) e = other_event _ e join_mark (unmarked (cond (eqb z 0) (delete x) no_event) (unmarked (delete x) refl (eqb z 0)) (eqb y 0)) refl
  join_words (suc (suc zero)) e = other_event _ e join_mark refl refl
  join_words (suc (suc (suc zero))) e =
      let p : x ≡ r = cc in
      let q : y ≡ a = cc in
      let s : z ≡ b = cc in
      record { kind_is = refl; same = λ k. link_of (p k) (q k) (s k) }
  join_words (suc (suc (suc (suc zero)))) e = other_event _ e join_mark refl refl
  join_words (suc (suc (suc (suc (suc zero))))) e = other_event _ e join_mark (unmarked (special x y) refl (eqb z 0)) refl
  join_words (suc (suc (suc (suc (suc (suc zero)))))) e = other_event _ e join_mark (unmarked (general x y) refl (eqb z 0)) refl
  join_words (suc (suc (suc (suc (suc (suc (suc k))))))) e = other_event _ e join_mark refl refl

-- ---- one event more

module _ (m : ℕ) (links events met before : List ℕ) where
  pub kept_none : (trace : List ℕ) → Kept m links events met trace trace 0
  kept_none trace = record { there_is = λ j h. absurd (omega arith); met_is = λ j h. absurd (omega arith); below = λ k h. refl; above = λ k h. refl }

  module _ (trace : List ℕ) (room : length trace ≡ 16675) (i there word : ℕ) (few : i < 256) where
    abbrev one : List ℕ
    one = set trace (1024 + i) there

    abbrev more : List ℕ
    more = set one (1280 + i) word

    other : (k : ℕ) → (k ≡ 1024 + i → ⊥) → (k ≡ 1280 + i → ⊥) → get_or more k 0 ≡ get_or trace k 0
    other k a b = get_or-set_other one (1280 + i) k word 0 b ∙ get_or-set_other trace (1024 + i) k there 0 a

    there_own : there_word more i ≡ there
    there_own = get_or-set_other one (1280 + i) (1024 + i) word 0 (λ e. omega arith) ∙ get_or-set_same trace (1024 + i) there 0 (omega arith)

    met_own : met_word more i ≡ word
    met_own = get_or-set_same one (1280 + i) word 0 (simp length-set (omega arith))

    pub kept_more : Kept m links events met before trace i
        → ((os : List Object) (r a b : ℕ) → event_row events i ≡ join r a b → eqb there 1 ≡ has_link (links_with os m links) (link_of r a b))
        → word ≡ get_or met i 0 → Kept m links events met before more (suc i)
    kept_more b is same =
        record {
          there_is = λ j h os r s t e.
              ⊎_elim
              (λ (q : j ≡ i). ap (λ k. eqb (there_word more k) 1) q ∙ ap (λ w. eqb w 1) there_own ∙ is os r s t (ap (event_row events) (sym q) ∙ e))
              (λ (q : j < i). ap (λ w. eqb w 1) (other (1024 + j) (λ x. omega arith) (λ x. omega arith)) ∙ b.there_is j q os r s t e)
              (eq-or-lt_of_le (le_of_suc-le-suc h));
          met_is = λ j h.
              ⊎_elim
              (λ (q : j ≡ i). ap (met_word more) q ∙ met_own ∙ same ∙ ap (λ k. get_or met k 0) (sym q))
              (λ (q : j < i). other (1280 + j) (λ x. omega arith) (λ x. omega arith) ∙ b.met_is j q)
              (eq-or-lt_of_le (le_of_suc-le-suc h));
          below = λ k h. other k (λ x. omega arith) (λ x. omega arith) ∙ b.below k h;
          above = λ k h. other k (λ x. omega arith) (λ x. omega arith) ∙ b.above k h;
        }
