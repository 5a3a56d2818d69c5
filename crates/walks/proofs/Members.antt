-- What a walk over an ascending list has left: all from the first that passes a test on, and all from a member on.
use Prim.Native.Nat.{ℕ, ◌≤◌, ◌<◌}
use mathlib.Core.Path.{◌≡◌, refl, sym, ap, subst, ◌∙◌}
use mathlib.Core.Logic.{⊎_elim}
use mathlib.Core.Bool.{Bool, true, false, not, cond}
use mathlib.Core.List.Memᴰ
use mathlib.Core.List.{List, [], ◌∷◌}
use mathlib.Core.Option.{Option, none, some}
use native.Mathlib.Nat.{le_of_lt}
use native.Mathlib.Omega.{arith}
use lib.Dec.{T, leb, ltb}
use mir.Facts.{yes_leb, yes_ltb, no_leb, no_ltb}
use Rattle.meaning.specs.Lists.{keep, first, ◌∈◌, Ascending}
use Rattle.meaning.proofs.Lists.{cond_yes, cond_no, first_some, decide}
use Rattle.walks.specs.Walks.{is_from}

-- ---- keep

pub keep_all : (p : ℕ → Bool) (l : List ℕ) → ((y : ℕ) → y ∈ l → T (p y)) → keep p l ≡ l
keep_all p [] h = refl
keep_all p (x ∷ xs) h =
    cond_yes (p x) (x ∷ keep p xs) (keep p xs) (h x (Memᴰ.head refl))
    ∙ ap {B = List ℕ} (λ k. x ∷ k) (keep_all p xs (λ y m. h y (Memᴰ.tail m)))

pub keep_none : (p : ℕ → Bool) (l : List ℕ) → ((y : ℕ) → y ∈ l → T (not (p y))) → keep p l ≡ []
keep_none p [] h = refl
keep_none p (x ∷ xs) h =
    cond_no (p x) (x ∷ keep p xs) (keep p xs) (h x (Memᴰ.head refl)) ∙ keep_none p xs (λ y m. h y (Memᴰ.tail m))

-- two tests in either order
pub keep_swap : (p q : ℕ → Bool) (l : List ℕ) → keep p (keep q l) ≡ keep q (keep p l)
keep_swap p q [] = refl
keep_swap p q (x ∷ xs) = step (p x) (q x) refl refl (keep_swap p q xs)
  where
    step : (a b : Bool) → p x ≡ a → q x ≡ b → keep p (keep q xs) ≡ keep q (keep p xs) → keep p (cond b (x ∷ keep q xs) (keep q xs)) ≡ keep q (cond a (x ∷ keep p xs) (keep p xs))
    step true true e f below = rw (e, f) (ap {B = List ℕ} (λ k. x ∷ k) below)
    step true false e f below = rw f below
    step false true e f below = rw e below
    step false false e f below = below

-- ---- what is left from an id on

-- a test that passes from some member on passes for what is left from the first that passes it
pub from_first : (p : ℕ → Bool) → ((x y : ℕ) → x < y → T (p x) → T (p y)) → (l : List ℕ) → Ascending ◌<◌ l → keep (is_from (first p l)) l ≡ keep p l
from_first p up [] s = refl
from_first p up (x ∷ xs) s = ⊎_elim found (passed (from_first p up xs s.1)) (decide (p x))
  where
    found : T (p x) → keep (is_from (first p (x ∷ xs))) (x ∷ xs) ≡ keep p (x ∷ xs)
    found t =
        ap (λ o. keep (is_from o) (x ∷ xs)) (cond_yes (p x) (some x) (first p xs) t)
        ∙ keep_all (is_from (some x)) (x ∷ xs) (λ y m. ⊎_elim (λ (e : y ≡ x). let h : x ≤ y = omega arith in yes_leb h) (λ (n : y ∈ xs). yes_leb (le_of_lt (s.0 y n))) (Memᴰ.cases_cons m))
        ∙ sym (keep_all p (x ∷ xs) (λ y m. ⊎_elim (λ (e : y ≡ x). subst (λ z. T (p z)) (sym e) t) (λ (n : y ∈ xs). up x y (s.0 y n) t) (Memᴰ.cases_cons m)))

    before : (o : Option ℕ) → first p xs ≡ o → T (not (is_from o x))
    before none e = tt
    before (some y) e = no_leb (s.0 y (first_some p xs e).0)

    passed : keep (is_from (first p xs)) xs ≡ keep p xs → T (not (p x)) → keep (is_from (first p (x ∷ xs))) (x ∷ xs) ≡ keep p (x ∷ xs)
    passed below t =
        ap (λ o. keep (is_from o) (x ∷ xs)) (cond_no (p x) (some x) (first p xs) t)
        ∙ cond_no (is_from (first p xs) x) (x ∷ keep (is_from (first p xs)) xs) (keep (is_from (first p xs)) xs) (before (first p xs) refl)
        ∙ below
        ∙ sym (cond_no (p x) (x ∷ keep p xs) (keep p xs) t)

-- from a member on: that member, and what comes after it
pub from_member : (l : List ℕ) → Ascending ◌<◌ l → (x : ℕ) → x ∈ l → keep (is_from (some x)) l ≡ x ∷ keep (λ y. ltb x y) l
from_member [] s x m = absurd (Memᴰ.not-nil m)
from_member (z ∷ zs) s x m = ⊎_elim here (λ n. later n (from_member zs s.1 x n)) (Memᴰ.cases_cons m)
  where
    here : x ≡ z → keep (is_from (some x)) (z ∷ zs) ≡ x ∷ keep (λ y. ltb x y) (z ∷ zs)
    here e =
        cond_yes (leb x z) (z ∷ keep (is_from (some x)) zs) (keep (is_from (some x)) zs) (let h : x ≤ z = omega arith in yes_leb h)
        ∙ ap (λ k. z ∷ k) (keep_all (is_from (some x)) zs (λ y n. let h = s.0 y n in let k : x ≤ y = omega arith in yes_leb k))
        ∙ ap (λ y. y ∷ zs) (sym e)
        ∙ ap {B = List ℕ} (λ k. x ∷ k)
        (sym (cond_no (ltb x z) (z ∷ keep (λ y. ltb x y) zs) (keep (λ y. ltb x y) zs) (let h : z ≤ x = omega arith in no_ltb h) ∙ keep_all (λ y. ltb x y) zs (λ y n. let h = s.0 y n in let k : x < y = omega arith in yes_ltb k)))

    later : x ∈ zs → keep (is_from (some x)) zs ≡ x ∷ keep (λ y. ltb x y) zs → keep (is_from (some x)) (z ∷ zs) ≡ x ∷ keep (λ y. ltb x y) (z ∷ zs)
    later n below =
        let h = s.0 x n in
        cond_no (leb x z) (z ∷ keep (is_from (some x)) zs) (keep (is_from (some x)) zs) (no_leb h)
        ∙ below
        ∙ ap {B = List ℕ} (λ k. x ∷ k) (sym (cond_no (ltb x z) (z ∷ keep (λ y. ltb x y) zs) (keep (λ y. ltb x y) zs) (no_ltb (le_of_lt h))))
