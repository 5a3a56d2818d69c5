-- The types above a type, by a walk up from it that puts a truth for each type on its way.
use Prim.Native.Nat.{ℕ, zero, suc, ◌-◌, ◌≤◌, ◌<◌}
use mathlib.Core.Path.{◌≡◌, refl, sym, ap, subst, ◌∙◌}
use mathlib.Core.Bool.{Bool, true, false, ◌||◌, cond, or-false, or-true, or_assoc}
use mathlib.Core.List.{List}
use mathlib.Core.Option.{Option, none, some}
use native.Mathlib.Omega.{arith}
use lib.Dec.{ltb, eqb}
use lib.ListN.{length, get_or, set, replicate, get_or-replicate}
use lib.Seq.{get_or-set_same, get_or-set_other}
use borrow.Author.Tests.{ne_eqb, eqb-true, eqb-false}
use Rattle.meaning.specs.Limits.{max_types}
use Rattle.meaning.specs.Lists.{holds}
use Rattle.meaning.specs.Schema.{ObjectType, parent_of, has_parent, climbs, under}
use Rattle.rows.specs.Rows.{word_at}
use Rattle.tables.specs.Columns.{no_parent, type_row, types_of}
use Rattle.schema.proofs.Types.{parent_used}
use Rattle.trace_places.specs.Making.{ForTypes}

-- ---- truths

pub no_truths : ForTypes (replicate max_types false) (λ u. false)
no_truths = record { each = λ u l. get_or-replicate max_types u false false l }

pub truth_put : (truths : List Bool) → length truths ≡ max_types → (t : ℕ) → t < max_types → ForTypes (set truths t true) (λ u. get_or truths u false || eqb t u)
truth_put truths long t h = record { each = λ u l. step u (eqb t u) refl }
  where
    step : (u : ℕ) (b : Bool) → eqb t u ≡ b → get_or (set truths t true) u false ≡ (get_or truths u false || b)
    step u true e =
        ap (λ k. get_or (set truths t true) k false) (sym (eqb-true t u e)) ∙ get_or-set_same truths t true false (omega arith) ∙ sym (or-true (get_or truths u false))
    step u false e = get_or-set_other truths t u true false (λ q. eqb-false t u e (sym q)) ∙ sym (or-false (get_or truths u false))

pub truths_as : {truths : List Bool} {f g : ℕ → Bool} → ForTypes truths f → ((t : ℕ) → f t ≡ g t) → ForTypes truths g
truths_as r same = record { each = λ t l. r.each t l ∙ same t }

pub truth_past : (truths : List Bool) (t : ℕ) → max_types ≤ t → ForTypes truths (λ u. get_or truths u false || eqb t u)
truth_past truths t h =
    record { each = λ u l. sym (ap (λ b. get_or truths u false || b) (ne_eqb t u (λ q. omega arith)) ∙ or-false (get_or truths u false)) }

-- ---- the parent of a type, by its row

some_parent : (o : Option ℕ) → holds (λ p. true) o ≡ false → o ≡ none
some_parent none e = refl
some_parent (some p) e = absurd (subst (λ b. cond b ℕ ⊥) e 0)

pub no_parent_lem : (ts : List ObjectType) (t : ℕ) → has_parent ts t ≡ false → parent_of ts t ≡ none
unfolding has_parent
no_parent_lem ts t e = some_parent (parent_of ts t) e

pub parent_word_lem : (n : ℕ) (types : List ℕ) (t : ℕ) → has_parent (types_of n types) t ≡ true → parent_of (types_of n types) t ≡ some (word_at types 2 t 0)
unfolding has_parent type_row
parent_word_lem n types t h = parent_used n types t ∙ step (ltb t n) (eqb word no_parent) (sym (ap (holds (λ p. true)) (parent_used n types t)) ∙ h)
  where
    word : ℕ
    word = word_at types 2 t 0

    step : (a b : Bool) → holds (λ p. true) (cond a (cond b none (some word)) none) ≡ true → cond a (cond b none (some word)) none ≡ some word
    step true true e = absurd (subst (λ b. cond b ⊥ ℕ) e 0)
    step true false e = refl
    step false b e = absurd (subst (λ b. cond b ⊥ ℕ) e 0)

-- ---- the walk

module _ (ts : List ObjectType) (t : ℕ) where
  -- t is under the types that a walk has put, and under those that are left of it
  pub record Walked (truths : List Bool) (left at : ℕ) : Type 0 where
    pub decides : (u : ℕ) → u < max_types → under ts t u ≡ (get_or truths u false || climbs ts left at u)

  pub walk_none : (truths : List Bool) → ((u : ℕ) → u < max_types → get_or truths u false ≡ false) → Walked truths t t
  unfolding under
  walk_none truths empty = record { decides = λ u l. sym (ap (λ b. b || climbs ts t t u) (empty u l)) }

  climb_one : (n at u : ℕ) → 0 < n → climbs ts n at u ≡ (eqb at u || holds (λ p. climbs ts (n - 1) p u) (parent_of ts at))
  unfolding climbs
  climb_one zero at u h = absurd (omega arith)
  climb_one (suc n) at u h = let e : suc n - 1 ≡ n = omega arith in rw e

  climb_last : (n at u : ℕ) → n ≤ 0 → climbs ts n at u ≡ eqb at u
  unfolding climbs
  climb_last zero at u h = refl
  climb_last (suc n) at u h = absurd (omega arith)

  module _ {truths more : List Bool} {left at : ℕ} (walked : Walked truths left at) (put : ForTypes more (λ u. get_or truths u false || eqb at u)) where
    walk_on : 0 < left → (o : Option ℕ) → parent_of ts at ≡ o → (u : ℕ) → u < max_types → under ts t u ≡ (get_or more u false || holds (λ p. climbs ts (left - 1) p u) o)
    walk_on h o e u l =
        walked.decides u l
        ∙ ap (λ b. get_or truths u false || b) (climb_one left at u h ∙ ap (λ q. eqb at u || holds (λ p. climbs ts (left - 1) p u) q) e)
        ∙ sym (or_assoc (get_or truths u false) (eqb at u) (holds (λ p. climbs ts (left - 1) p u) o))
        ∙ ap (λ b. b || holds (λ p. climbs ts (left - 1) p u) o) (sym (put.each u l))

    pub walk_up : {p : ℕ} → 0 < left → parent_of ts at ≡ some p → Walked more (left - 1) p
    walk_up {p} h e = record { decides = walk_on h (some p) e }

    pub walk_top : 0 < left → parent_of ts at ≡ none → ForTypes more (under ts t)
    walk_top h e = record { each = λ u l. sym (walk_on h none e u l ∙ or-false (get_or more u false)) }

    pub walk_end : left ≤ 0 → ForTypes more (under ts t)
    walk_end h = record { each = λ u l. put.each u l ∙ sym (walked.decides u l ∙ ap (λ b. get_or truths u false || b) (climb_last left at u h)) }
