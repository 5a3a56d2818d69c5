-- A test and its opposite.
use Prim.Native.Nat.{ℕ}
use mathlib.Core.Path.{◌≡◌, refl, sym, ap, ◌∙◌}
use mathlib.Core.Logic.{⊎_elim}
use mathlib.Core.Bool.{Bool, true, false, ◌&&◌, ◌||◌, not}
use lib.Dec.{T, leb, ltb}
use mir.Facts.{ltb_yes, ltb_no}
use borrow.Author.Tests.{lt-ltb, le-ltb, le-leb, lt-leb}
use Rattle.meaning.proofs.Lists.{decide}

pub not_ltb : (a b : ℕ) → not (ltb a b) ≡ leb b a
not_ltb a b =
    ⊎_elim
    (λ (t : T (ltb a b)). ap not (lt-ltb a b (ltb_yes t)) ∙ sym (lt-leb b a (ltb_yes t)))
    (λ (t : T (not (ltb a b))). ap not (le-ltb a b (ltb_no t)) ∙ sym (le-leb b a (ltb_no t)))
    (decide (ltb a b))

pub not_not : (b : Bool) → not (not b) ≡ b
not_not true = refl
not_not false = refl

pub not_leb : (a b : ℕ) → not (leb a b) ≡ ltb b a
not_leb a b = ap not (sym (not_ltb b a)) ∙ not_not (ltb b a)

pub and-false : (b : Bool) → (b && false) ≡ false
and-false true = refl
and-false false = refl

pub or-false : (b : Bool) → (b || false) ≡ b
or-false true = refl
or-false false = refl

pub and-true : (b : Bool) → (b && true) ≡ b
and-true true = refl
and-true false = refl
