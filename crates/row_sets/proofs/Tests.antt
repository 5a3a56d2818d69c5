-- What a test that is true says of its parts.
use mathlib.Core.Path.{◌≡◌, refl, sym, ap, subst, ◌∙◌}
use mathlib.Core.Logic.{◌⊎◌, inl, inr}
use mathlib.Core.Bool.{Bool, true, false, ◌&&◌, ◌||◌, or-true}
use lib.Dec.{T}

pub so_true : (b : Bool) → T b → b ≡ true
so_true true t = refl
so_true false t = absurd t

pub true_so : {b : Bool} → b ≡ true → T b
true_so e = subst T (sym e) tt

pub both_true : (a b : Bool) → (a && b) ≡ true → (a ≡ true) × (b ≡ true)
both_true true b e = (refl, e)
both_true false b e = absurd (true_so e)

pub one_true : (a b : Bool) → (a || b) ≡ true → (a ≡ true) ⊎ (b ≡ true)
one_true true b e = inl refl
one_true false b e = inr e

-- weaker parts
pub and_more : (a : Bool) {b c : Bool} → (b ≡ true → c ≡ true) → (a && b) ≡ true → (a && c) ≡ true
and_more true f e = f e
and_more false f e = e

pub or_more : (a b : Bool) {c d : Bool} → (a ≡ true → c ≡ true) → (b ≡ true → d ≡ true) → (a || b) ≡ true → (c || d) ≡ true
or_more true b {c} {d} f g e = ap (λ x. x || d) (f refl)
or_more false b {c} {d} f g e = ap (λ x. c || x) (g e) ∙ or-true c

-- the second where not the first
pub or_else : (a : Bool) {b : Bool} → (a ≡ false → b ≡ true) → (a || b) ≡ true
or_else true f = refl
or_else false f = f refl
