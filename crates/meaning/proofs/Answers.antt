-- What the full check and the batch check answer, and what the batch check leaves: theorems 8 and 9.
use Prim.Native.Nat.{ℕ}
use mathlib.Core.Path.{◌≡◌, refl, ap₂, subst}
use mathlib.Core.Logic.{◌↔◌}
use mathlib.Core.Bool.{not}
use mathlib.Core.List.{List}
use mathlib.Core.Option.{Option, none, some, none-ne-some, some-ne-none}
use native.Mathlib.Omega.{arith}
use lib.Dec.{T}
use lib.ListN.{get_elem?}
use mir.Facts.{T_not, not_T}
use Rattle.meaning.specs.Lists.{◌∈◌, first, holds, Ascending, Before}
use Rattle.meaning.specs.Schema.{ObjectType}
use Rattle.meaning.specs.Register.{Register, instances}
use Rattle.meaning.specs.Forms.{Book}
use Rattle.meaning.specs.Meaning.{broken, rule_holds, book_holds}
use Rattle.meaning.specs.Events.{Refusal}
use Rattle.meaning.specs.Reach.{Pair, pair_of, pair_key, context_pairs, of_rule}
use Rattle.meaning.specs.Answers.{Answer, accepted, broken_at, refused, refusal, pair_broken, found_answer, first_broken, unless_refused, full_check}
use Rattle.meaning.specs.Claims.{FullCheckRefused, FullCheckBroken, FullCheckAccepted}
use Rattle.meaning.proofs.Lists.{every_of, every_at, every_place, first_none, first_absent, first_ascending, holds_some, element_in}
use Rattle.meaning.proofs.Order.{before_irreflexive, before_transitive}
use Rattle.meaning.proofs.Registers.{instance_in}
use Rattle.meaning.proofs.Pairs.{context_pair_in, context_pairs_ascend}
use Rattle.meaning.proofs.Agreement.{checked, broken_under}

-- ---- the first broken pair of a list

found_at : (o : Option Pair) (p : Pair) → (found_answer o ≡ broken_at p.rule p.id) ↔ (o ≡ some p)
unfolding found_answer
found_at none p = (λ e. cc, λ e. cc)
found_at (some q) p = (
  λ e.
      let rules : q.rule ≡ p.rule = cc in
      let ids : q.id ≡ p.id = cc in
      ap₂ (λ n s. some (pair_of n s)) rules ids,
  λ e. cc,
)

found_none : (o : Option Pair) → (found_answer o ≡ accepted) ↔ (o ≡ none)
unfolding found_answer
found_none none = (λ e. refl, λ e. refl)
found_none (some q) = (λ e. cc, λ e. cc)

module _ (k : Book) (g : Register) where
  abbrev types : List ObjectType
  types = k.schema.types

  pub first_broken_lem : (l : List Pair) → Ascending (Before pair_key) l → (p : Pair) → (first_broken k g l ≡ broken_at p.rule p.id) ↔ (p ∈ l × T (pair_broken k g p) × ((q : Pair) → q ∈ l → Before pair_key q p → T (not (pair_broken k g q))))
  unfolding first_broken
  first_broken_lem l a p =
      let found = found_at (first (pair_broken k g) l) p in
      let law = first_ascending (Before pair_key) (λ q. before_irreflexive (pair_key q)) (λ x y z. before_transitive (pair_key x) (pair_key y) (pair_key z)) (pair_broken k g) l a p in
      (λ e. law.0 (found.0 e), λ h. found.1 (law.1 h))

  pub none_broken : (l : List Pair) → (first_broken k g l ≡ accepted) ↔ ((p : Pair) → p ∈ l → T (not (pair_broken k g p)))
  unfolding first_broken
  none_broken l =
      let found = found_none (first (pair_broken k g) l) in
      (λ e. first_none (pair_broken k g) l (found.0 e), λ h. found.1 (first_absent (pair_broken k g) l h))

  -- ---- every pair that is broken, and every rule that holds

  -- a broken pair is one of a rule and an object under its context type
  broken_in_context : (p : Pair) → T (pair_broken k g p) → p ∈ context_pairs k g
  unfolding of_rule
  broken_in_context p b =
      let r = holds_some (λ r. broken types g r p.id) (get_elem? k.rules p.rule) b in
      context_pair_in k g p.rule r.0 r.1 p.id (broken_under types g r.0 p.id r.2)

  -- every rule holds exactly when no pair is broken
  pub holds_unbroken : T (book_holds k g) → (p : Pair) → T (not (pair_broken k g p))
  unfolding of_rule book_holds rule_holds
  holds_unbroken h p =
      not_T (pair_broken k g p)
      (λ b.
      let r = holds_some (λ r. broken types g r p.id) (get_elem? k.rules p.rule) b in
      T_not (broken types g r.0 p.id) r.2
      (every_at (λ s. not (broken types g r.0 s)) (every_at (rule_holds types g) h (element_in k.rules p.rule r.1))
      (instance_in types g p.id r.0.context (broken_under types g r.0 p.id r.2))))

  unbroken_holds : ((p : Pair) → T (not (pair_broken k g p))) → T (book_holds k g)
  unfolding of_rule book_holds rule_holds
  unbroken_holds h =
      every_place (rule_holds types g) k.rules
      (λ n r e.
      every_of (λ s. not (broken types g r s)) (instances types g r.context)
      (λ s m. subst (λ o. T (not (holds (λ r. broken types g r s) o))) e (h (pair_of n s))))

-- ---- the full check

module _ (k : Book) (g : Register) where
  -- an answer of the search is the full check's exactly where nothing is refused
  full_check_lem : (a : Answer) → ((r : Refusal) → ¬ (refused r.number r.place ≡ a)) → (full_check k g ≡ a) ↔ ((refusal k g ≡ none) × (first_broken k g (context_pairs k g) ≡ a))
  unfolding full_check unless_refused
  full_check_lem a answered = step (refusal k g) refl
    where
      step : (o : Option Refusal) → refusal k g ≡ o → (unless_refused o (first_broken k g (context_pairs k g)) ≡ a) ↔ ((o ≡ none) × (first_broken k g (context_pairs k g) ≡ a))
      step none e = (λ h. (refl, h), λ h. h.1)
      step (some r) e = (λ h. absurd (answered r h), λ h. absurd (some-ne-none r h.0))

pub full_check_refused : FullCheckRefused
unfolding full_check unless_refused first_broken found_answer
full_check_refused k g r = step (refusal k g)
  where
    found : (o : Option Pair) → ¬ (found_answer o ≡ refused r.number r.place)
    found none e = let z : ◌≡◌ {A = ℕ} 0 1 = cc in omega arith
    found (some p) e = let z : ◌≡◌ {A = ℕ} 0 1 = cc in omega arith

    step : (o : Option Refusal) → (unless_refused o (first_broken k g (context_pairs k g)) ≡ refused r.number r.place) ↔ (o ≡ some r)
    step none = (λ h. absurd (found (first (pair_broken k g) (context_pairs k g)) h), λ h. absurd (none-ne-some r h))
    step (some q) = (
      λ h.
          let numbers : q.number ≡ r.number = cc in
          let places : q.place ≡ r.place = cc in
          λ i. some (record { number = numbers i; place = places i }),
      λ h. cc,
    )

pub full_check_broken : FullCheckBroken
full_check_broken k g p =
    let law = full_check_lem k g (broken_at p.rule p.id) (λ r e. let z : ◌≡◌ {A = ℕ} 0 1 = cc in omega arith) in (
      λ e.
          let h = law.0 e in
          let least = (first_broken_lem k g (context_pairs k g) (ascending h.0) p).0 h.1 in
          (h.0, least.1, λ q b. not_T (pair_broken k g q) (λ t. T_not (pair_broken k g q) t (least.2 q (broken_in_context k g q t) b))),
      λ h.
          law.1 (h.0, (first_broken_lem k g (context_pairs k g) (ascending h.0) p).1 (broken_in_context k g p h.1, h.1, λ q m. h.2 q)),
    )
  where
    ascending : refusal k g ≡ none → Ascending (Before pair_key) (context_pairs k g)
    ascending e = context_pairs_ascend k g (checked k g e).register

pub full_check_accepted : FullCheckAccepted
full_check_accepted k g =
    let law = full_check_lem k g accepted (λ r e. let z : ◌≡◌ {A = ℕ} 0 1 = cc in omega arith) in
    let none_is = none_broken k g (context_pairs k g) in (
      λ e.
          let h = law.0 e in
          (h.0, unbroken_holds k g (λ p. not_T (pair_broken k g p) (λ t. T_not (pair_broken k g p) t (none_is.0 h.1 p (broken_in_context k g p t))))),
      λ h. law.1 (h.0, none_is.1 (λ p m. holds_unbroken k g h.1 p)),
    )
