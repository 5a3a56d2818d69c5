-- The marks of the event types of one kind and cell whose types are some of 32: one type more.
use Prim.Native.Nat.{ℕ, suc, ◌/◌, ◌%◌, ◌≤◌}
use mathlib.Core.Path.{◌≡◌, refl, sym, ap, ◌∙◌}
use mathlib.Core.Bool.{Bool, true, false, ◌&&◌, ◌||◌, not, and-false, or-false}
use mathlib.Core.List.{List, [], ◌∷◌}
use native.Mathlib.Omega.{arith}
use lib.Dec.{ltb, eqb}
use lib.ListN.{get_or}
use borrow.Author.Tests.{lt-ltb, le-ltb, eqb-true, eqb-false, ltb-true, ltb-false}
use Rattle.meaning.specs.Lists.{same_list}
use Rattle.type_marks.specs.Marks.{words_at, Added}
use Rattle.type_marks.proofs.Marks.{added_none, added_then, added_as}

-- a type is one of the first and none of the second
abbrev pub but_not : List Bool → List Bool → ℕ → Bool
but_not these except t = get_or these t false && not (get_or except t false)

module _ (kind cell : ℕ) (truth : ℕ → Bool) where
  -- the types below n of which the truth holds
  abbrev pub marked_to : ℕ → ℕ → Bool
  marked_to n place = eqb kind (place / 256) && (eqb cell (place % 8) && (ltb (place / 8 % 32) n && truth (place / 8 % 32)))

  pub types_none : (marks : List Bool) → Added marks marks (marked_to 0)
  types_none marks =
      added_as (added_none marks)
      (λ place h.
      let m = place / 8 % 32 in
      let a = eqb kind (place / 256) in
      let b = eqb cell (place % 8) in
      sym (ap (λ x. a && (b && (x && truth m))) (le-ltb m 0 (omega arith)) ∙ none_below a b))
    where
      none_below : (a b : Bool) → (a && (b && false)) ≡ false
      none_below true true = refl
      none_below true false = refl
      none_below false b = refl

  below_more : (m t : ℕ) (b : Bool) → eqb t m ≡ b → ltb m (suc t) ≡ (ltb m t || b)
  below_more m t true e = let q = eqb-true t m e in lt-ltb m (suc t) (omega arith) ∙ sym (ap (λ x. x || true) (le-ltb m t (omega arith)))
  below_more m t false e = step (ltb m t) refl
    where
      step : (x : Bool) → ltb m t ≡ x → ltb m (suc t) ≡ (ltb m t || false)
      step true q = let l = ltb-true m t q in lt-ltb m (suc t) (omega arith) ∙ sym (ap (λ x. x || false) q)
      step false q =
          let l = ltb-false m t q in
          let d = eqb-false t m e in
          le-ltb m (suc t) (above m t l d) ∙ sym (ap (λ x. x || false) q)
        where
          above : (m t : ℕ) → t ≤ m → (t ≡ m → ⊥) → suc t ≤ m
          above m t l d = omega arith

  together : (a b l n u v : Bool) → (n ≡ true → u ≡ v) → ((a && (b && (l && v))) || (u && (a && (n && (b && true))))) ≡ (a && (b && ((l || n) && v)))
  together false b l n u v same = and-false u
  together true false l n u v same = ap (λ x. u && x) (and-false n) ∙ and-false u
  together true true l true u v same = rw (same refl) (whole l v)
    where
      whole : (l v : Bool) → ((l && v) || (v && true)) ≡ ((l || true) && v)
      whole true true = refl
      whole true false = refl
      whole false true = refl
      whole false false = refl
  together true true true false u v same = ap (λ x. v || x) (and-false u) ∙ or-false v
  together true true false false u v same = and-false u

  pub types_more : {before marks more : List Bool} {listed : Bool} (t : ℕ) → listed ≡ truth t → Added before marks (marked_to t)
      → Added marks more (λ place. listed && same_list (kind ∷ t ∷ cell ∷ []) (words_at place)) → Added before more (marked_to (suc t))
  types_more {listed = listed} t is b own =
      added_as (added_then b own)
      (λ place h.
      let m = place / 8 % 32 in
      together (eqb kind (place / 256)) (eqb cell (place % 8)) (ltb m t) (eqb t m) listed (truth m) (λ e. is ∙ ap truth (eqb-true t m e))
      ∙ ap (λ x. eqb kind (place / 256) && (eqb cell (place % 8) && (x && truth m))) (sym (below_more m t (eqb t m) refl)))

  pub types_all : {before after : List Bool} → Added before after (marked_to 32) → Added before after (λ place. eqb kind (place / 256) && (eqb cell (place % 8) && truth (place / 8 % 32)))
  types_all r =
      added_as r (λ place h. ap (λ x. eqb kind (place / 256) && (eqb cell (place % 8) && (x && truth (place / 8 % 32)))) (lt-ltb (place / 8 % 32) 32 (omega arith)))
