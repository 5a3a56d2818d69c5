-- Laws of the operations of specs/Lists: membership in what they make, and lists that ascend by a relation.
use Prim.Native.Nat.{ℕ, zero, suc, ◌≤◌, zero-le, suc-le-suc}
use mathlib.Core.Path.{◌≡◌, refl, sym, ap, subst, ◌∙◌}
use mathlib.Core.Logic.{◌⊎◌, inl, inr, ⊎_elim, ◌↔◌}
use mathlib.Core.Bool.{Bool, true, false, ◌&&◌, ◌||◌, not, cond}
use mathlib.Core.List.Memᴰ
use mathlib.Core.List.{List, [], ◌∷◌, ◌++◌, map}
use mathlib.Core.Option
use mathlib.Core.Option.{Option, none, some, none-ne-some, some-injective}
use native.Mathlib.Nat.{le_trans, le-suc}
use lib.Dec.{T}
use lib.ListN.{length, get_or, take, drop, replicate, get_elem?, set as replace_at}
use mir.Facts.{and_yes, yes_and, or_yes, T_not, not_T}
use Rattle.meaning.specs.Lists.{◌∈◌, any, every, keep, first, holds, first_of, Ascending}

-- ---- tests

pub or_left : (a b : Bool) → T a → T (a || b)
or_left true b t = tt
or_left false b t = absurd t

pub or_right : (a b : Bool) → T b → T (a || b)
or_right true b t = tt
or_right false b t = t

pub no_or : (a b : Bool) → T (not a) → T (not b) → T (not (a || b))
no_or true b s t = s
no_or false b s t = t

pub not_and_left : (a b : Bool) → T (not a) → T (not (a && b))
not_and_left true b t = absurd t
not_and_left false b t = tt

pub not_and_right : (a b : Bool) → T (not b) → T (not (a && b))
not_and_right true b t = t
not_and_right false b t = tt

pub and_map : (a b c : Bool) → (T b → T c) → T (a && b) → T (a && c)
and_map true b c f t = f t
and_map false b c f t = t

pub not_not : (a : Bool) → T a → T (not (not a))
not_not true t = tt
not_not false t = t

pub not_sub : (a b : Bool) → (T a → T b) → T (not b) → T (not a)
not_sub a b h n = not_T a (λ t. T_not b (h t) n)

-- which of the two a test is
pub so_false : (b : Bool) → T (not b) → b ≡ false
so_false true h = absurd h
so_false false h = refl

pub decide : (b : Bool) → T b ⊎ T (not b)
decide true = inl tt
decide false = inr tt

pub cond_yes : {A : Type 0} (b : Bool) (x y : A) → T b → cond b x y ≡ x
cond_yes true x y t = refl
cond_yes false x y t = absurd t

pub cond_no : {A : Type 0} (b : Bool) (x y : A) → T (not b) → cond b x y ≡ y
cond_no true x y t = absurd t
cond_no false x y t = refl

pub first_of_none : {A : Type 0} (a b : Option A) → first_of a b ≡ none → (a ≡ none) × (b ≡ none)
first_of_none none b e = (refl, e)
first_of_none (some x) b e = absurd (none-ne-some x (sym e))

module _ {A : Type 0} where
  pub any_of : (p : A → Bool) {x : A} {l : List A} → x ∈ l → T (p x) → T (any p l)
  any_of p (Memᴰ.head {x = y} {xs = ys} e) t = or_left (p y) (any p ys) (subst (λ z. T (p z)) e t)
  any_of p (Memᴰ.tail {x = y} {xs = ys} m) t = or_right (p y) (any p ys) (any_of p m t)

  pub any_cases : (p : A → Bool) (l : List A) → T (any p l) → (x : A) × x ∈ l × T (p x)
  any_cases p [] t = absurd t
  any_cases p (y ∷ ys) t = step (λ u. any_cases p ys u) (or_yes (p y) (any p ys) t)
    where
      step : (T (any p ys) → (x : A) × x ∈ ys × T (p x)) → T (p y) ⊎ T (any p ys) → (x : A) × x ∈ (y ∷ ys) × T (p x)
      step below (inl u) = (y, Memᴰ.head refl, u)
      step below (inr u) = let r = below u in (r.0, Memᴰ.tail r.1, r.2)

  pub any_none : (p : A → Bool) {x : A} {l : List A} → T (not (any p l)) → x ∈ l → T (not (p x))
  any_none p {x} {l} t m = not_T (p x) (λ u. T_not (any p l) (any_of p m u) t)

  pub every_of : (p : A → Bool) (l : List A) → ((x : A) → x ∈ l → T (p x)) → T (every p l)
  every_of p [] h = tt
  every_of p (y ∷ ys) h = yes_and (p y) (every p ys) (h y (Memᴰ.head refl)) (every_of p ys (λ x m. h x (Memᴰ.tail m)))

  pub every_at : (p : A → Bool) {x : A} {l : List A} → T (every p l) → x ∈ l → T (p x)
  every_at p t (Memᴰ.head {x = y} {xs = ys} e) = subst (λ z. T (p z)) (sym e) (and_yes (p y) (every p ys) t).0
  every_at p t (Memᴰ.tail {x = y} {xs = ys} m) = every_at p (and_yes (p y) (every p ys) t).1 m

  pub any_map : (p q : A → Bool) (l : List A) → ((x : A) → x ∈ l → T (p x) → T (q x)) → T (any p l) → T (any q l)
  any_map p q l h t = let r = any_cases p l t in any_of q r.1 (h r.0 r.1 r.2)

  -- ---- keep

  pub keep_in : (p : A → Bool) {x : A} {l : List A} → x ∈ l → T (p x) → x ∈ keep p l
  keep_in p {x} (Memᴰ.head {x = y} {xs = ys} e) t =
      subst (λ k. x ∈ k) (sym (cond_yes (p y) (y ∷ keep p ys) (keep p ys) (subst (λ z. T (p z)) e t))) (Memᴰ.head e)
  keep_in p {x} (Memᴰ.tail {x = y} {xs = ys} m) t = deeper (p y) (keep_in p m t)
    where
      deeper : (b : Bool) → x ∈ keep p ys → x ∈ cond b (y ∷ keep p ys) (keep p ys)
      deeper true n = Memᴰ.tail n
      deeper false n = n

  pub keep_from : (p : A → Bool) (l : List A) {x : A} → x ∈ keep p l → x ∈ l × T (p x)
  keep_from p [] m = absurd (Memᴰ.not-nil m)
  keep_from p (y ∷ ys) {x} m = step (p y) refl (λ n. keep_from p ys n) m
    where
      step : (b : Bool) → p y ≡ b → (x ∈ keep p ys → x ∈ ys × T (p x)) → x ∈ cond b (y ∷ keep p ys) (keep p ys) → x ∈ (y ∷ ys) × T (p x)
      step true e below n =
          ⊎_elim
          (λ (q : x ≡ y). (Memᴰ.head q, subst (λ z. T (p z)) (sym q) (subst T (sym e) tt)))
          (λ (k : x ∈ keep p ys). let r = below k in (Memᴰ.tail r.0, r.1))
          (Memᴰ.cases_cons n)
      step false e below n = let r = below n in (Memᴰ.tail r.0, r.1)

  pub length_keep : (p : A → Bool) (l : List A) → length (keep p l) ≤ length l
  length_keep p [] = zero-le
  length_keep p (y ∷ ys) = step (p y) (length_keep p ys)
    where
      step : (b : Bool) → length (keep p ys) ≤ length ys → length (cond b (y ∷ keep p ys) (keep p ys)) ≤ suc (length ys)
      step true h = suc-le-suc h
      step false h = le_trans h (le-suc (length ys))

  pub keep_all : (p : A → Bool) (l : List A) → ((x : A) → x ∈ l → T (p x)) → keep p l ≡ l
  keep_all p [] h = refl
  keep_all p (y ∷ ys) h = cond_yes (p y) (y ∷ keep p ys) (keep p ys) (h y (Memᴰ.head refl)) ∙ ap (λ k. y ∷ k) (keep_all p ys (λ x m. h x (Memᴰ.tail m)))

  -- ---- first

  pub first_some : (p : A → Bool) (l : List A) {x : A} → first p l ≡ some x → x ∈ l × T (p x)
  first_some p [] {x} e = absurd (none-ne-some x e)
  first_some p (y ∷ ys) {x} e = step (p y) refl (λ q. first_some p ys q) e
    where
      step : (b : Bool) → p y ≡ b → (first p ys ≡ some x → x ∈ ys × T (p x)) → cond b (some y) (first p ys) ≡ some x → x ∈ (y ∷ ys) × T (p x)
      step true b below q =
          let r : x ≡ y = sym (some-injective y x q) in
          (Memᴰ.head r, subst (λ z. T (p z)) (sym r) (subst T (sym b) tt))
      step false b below q = let r = below q in (Memᴰ.tail r.0, r.1)

  pub first_none : (p : A → Bool) (l : List A) → first p l ≡ none → (x : A) → x ∈ l → T (not (p x))
  first_none p [] e x m = absurd (Memᴰ.not-nil m)
  first_none p (y ∷ ys) e x m = step (p y) refl (λ q. first_none p ys q x) e
    where
      step : (b : Bool) → p y ≡ b → (first p ys ≡ none → x ∈ ys → T (not (p x))) → cond b (some y) (first p ys) ≡ none → T (not (p x))
      step true b below q = absurd (none-ne-some y (sym q))
      step false b below q =
          ⊎_elim (λ (r : x ≡ y). subst (λ z. T (not (p z))) (sym r) (subst (λ c. T (not c)) (sym b) tt)) (λ n. below q n) (Memᴰ.cases_cons m)

  -- of the elements that pass one test, the first that passes another, if that one passes the first too
  pub first_keep : (p q : A → Bool) (l : List A) → ((x : A) → x ∈ l → T (p x) → T (q x)) → first p (keep q l) ≡ first p l
  first_keep p q [] h = refl
  first_keep p q (y ∷ ys) h = step (p y) (q y) refl (h y (Memᴰ.head refl)) (first_keep p q ys (λ x m. h x (Memᴰ.tail m)))
    where
      step : (b d : Bool) → p y ≡ b → (T (p y) → T d) → first p (keep q ys) ≡ first p ys → first p (cond d (y ∷ keep q ys) (keep q ys)) ≡ cond b (some y) (first p ys)
      step true true e f below = rw e refl
      step true false e f below = absurd (f (subst T (sym e) tt))
      step false true e f below = rw e below
      step false false e f below = below

  pub holds_some : (p : A → Bool) (o : Option A) → T (holds p o) → (x : A) × (o ≡ some x) × T (p x)
  holds_some p none t = absurd t
  holds_some p (some x) t = (x, refl, t)

  pub some_holds : (p : A → Bool) {o : Option A} {x : A} → o ≡ some x → T (p x) → T (holds p o)
  some_holds p e t = subst (λ o. T (holds p o)) (sym e) t

  pub element_in : (l : List A) (n : ℕ) {x : A} → get_elem? l n ≡ some x → x ∈ l
  element_in [] n {x} e = absurd (none-ne-some x e)
  element_in (y ∷ ys) zero {x} e = Memᴰ.head (sym (some-injective y x e))
  element_in (y ∷ ys) (suc n) e = Memᴰ.tail (element_in ys n e)

  -- what holds of the element at each place holds of every element
  pub every_place : (p : A → Bool) (l : List A) → ((n : ℕ) (x : A) → get_elem? l n ≡ some x → T (p x)) → T (every p l)
  every_place p [] h = tt
  every_place p (y ∷ ys) h = yes_and (p y) (every p ys) (h 0 y refl) (every_place p ys (λ n. h (suc n)))

  -- ---- ascending lists

  pub ascending_keep : (R : A → A → Type 0) (p : A → Bool) (l : List A) → Ascending R l → Ascending R (keep p l)
  ascending_keep R p [] a = tt
  ascending_keep R p (y ∷ ys) a = step (p y) (ascending_keep R p ys a.1)
    where
      step : (b : Bool) → Ascending R (keep p ys) → Ascending R (cond b (y ∷ keep p ys) (keep p ys))
      step true r = (λ z m. a.0 z (keep_from p ys m).0, r)
      step false r = r

  module _ (R : A → A → Type 0) (irreflexive : (x : A) → ¬ R x x) (transitive : (x y z : A) → R x y → R y z → R x z) where
    -- two ascending lists of the same members are one list
    pub ascending_unique : (l k : List A) → Ascending R l → Ascending R k → ((x : A) → x ∈ l → x ∈ k) → ((x : A) → x ∈ k → x ∈ l) → l ≡ k
    ascending_unique [] [] a b f g = refl
    ascending_unique [] (y ∷ ys) a b f g = absurd (Memᴰ.not-nil (g y (Memᴰ.head refl)))
    ascending_unique (x ∷ xs) [] a b f g = absurd (Memᴰ.not-nil (f x (Memᴰ.head refl)))
    ascending_unique (x ∷ xs) (y ∷ ys) a b f g =
        both heads (λ e. ascending_unique xs ys a.1 b.1 (rest e) (back e))
      where
        heads : x ≡ y
        heads =
            ⊎_elim (λ (e : x ≡ y). e)
            (λ (m : x ∈ ys).
            ⊎_elim (λ (e : y ≡ x). sym e)
            (λ (n : y ∈ xs). absurd (irreflexive x (transitive x y x (a.0 y n) (b.0 x m))))
            (Memᴰ.cases_cons (g y (Memᴰ.head refl))))
            (Memᴰ.cases_cons (f x (Memᴰ.head refl)))

        rest : x ≡ y → (z : A) → z ∈ xs → z ∈ ys
        rest e z m =
            ⊎_elim (λ (q : z ≡ y). absurd (irreflexive x (subst (R x) (q ∙ sym e) (a.0 z m)))) (λ n. n)
            (Memᴰ.cases_cons (f z (Memᴰ.tail m)))

        back : x ≡ y → (z : A) → z ∈ ys → z ∈ xs
        back e z m =
            ⊎_elim (λ (q : z ≡ x). absurd (irreflexive y (subst (R y) (q ∙ e) (b.0 z m)))) (λ n. n)
            (Memᴰ.cases_cons (g z (Memᴰ.tail m)))

        both : x ≡ y → (x ≡ y → xs ≡ ys) → x ∷ xs ≡ y ∷ ys
        both e tails = λ i. e i ∷ tails e i

    -- an ascending list whose members are all in another is no longer than it
    pub ascending_shorter : (l k : List A) → Ascending R l → Ascending R k → ((x : A) → x ∈ l → x ∈ k) → length l ≤ length k
    ascending_shorter [] k a b f = zero-le
    ascending_shorter (x ∷ xs) [] a b f = absurd (Memᴰ.not-nil (f x (Memᴰ.head refl)))
    ascending_shorter (x ∷ xs) (y ∷ ys) a b f = suc-le-suc (ascending_shorter xs ys a.1 b.1 inside)
      where
        -- an element after x is not y: y is x, or comes before x
        inside : (z : A) → z ∈ xs → z ∈ ys
        inside z m =
            ⊎_elim
            (λ (q : z ≡ y).
            absurd
            (⊎_elim
            (λ (e : x ≡ y). irreflexive x (subst (R x) (q ∙ sym e) (a.0 z m)))
            (λ (n : x ∈ ys). irreflexive y (transitive y x y (b.0 x n) (subst (R x) q (a.0 z m))))
            (Memᴰ.cases_cons (f x (Memᴰ.head refl)))))
            (λ n. n)
            (Memᴰ.cases_cons (f z (Memᴰ.tail m)))

  pub ascending_append : (R : A → A → Type 0) (l k : List A) → Ascending R l → Ascending R k → ((x y : A) → x ∈ l → y ∈ k → R x y) → Ascending R (l ++ k)
  ascending_append R [] k a b h = b
  ascending_append R (x ∷ xs) k a b h = (
    λ y m. ⊎_elim (λ n. a.0 y n) (λ n. h x y (Memᴰ.head refl) n) (Memᴰ.append_cases xs m),
    ascending_append R xs k a.1 b (λ z y m n. h z y (Memᴰ.tail m) n),
  )

module _ {A B : Type 0} (f : A → B) where
  -- a map that keeps the relation between members keeps the order
  pub ascending_map : (R : A → A → Type 0) (Q : B → B → Type 0) (l : List A) → ((x y : A) → x ∈ l → y ∈ l → R x y → Q (f x) (f y)) → Ascending R l → Ascending Q (map f l)
  ascending_map R Q [] h a = tt
  ascending_map R Q (x ∷ xs) h a = (
    λ y m.
        let r = Memᴰ.of_map f xs m in
        subst (Q (f x)) r.2 (h x r.0 (Memᴰ.head refl) (Memᴰ.tail r.1) (a.0 r.0 r.1)),
    ascending_map R Q xs (λ z y m n. h z y (Memᴰ.tail m) (Memᴰ.tail n)) a.1,
  )

-- ---- the first element that passes a test, after a change of the list

module _ {A : Type 0} (p : A → Bool) where
  pub first_absent : (l : List A) → ((y : A) → y ∈ l → T (not (p y))) → first p l ≡ none
  first_absent l h = step (first p l) refl
    where
      step : (o : Option A) → first p l ≡ o → o ≡ none
      step none e = refl
      step (some y) e = let r = first_some p l e in absurd (T_not (p y) r.1 (h y r.0))

  pub first_map : (f : A → A) → ((y : A) → p (f y) ≡ p y) → (l : List A) → first p (map f l) ≡ Option.map f (first p l)
  first_map f h [] = refl
  first_map f h (y ∷ ys) = ap (λ b. cond b (some (f y)) (first p (map f ys))) (h y) ∙ step (p y) (first_map f h ys)
    where
      step : (b : Bool) → first p (map f ys) ≡ Option.map f (first p ys) → cond b (some (f y)) (first p (map f ys)) ≡ Option.map f (cond b (some y) (first p ys))
      step true below = refl
      step false below = below

-- ---- what every element passes, after a change of the list

module _ {A : Type 0} (p : A → Bool) where
  pub every_get_d : (l : List A) (k : ℕ) (d : A) → T (every p l) → T (p d) → T (p (get_or l k d))
  every_get_d [] k d t u = u
  every_get_d (x ∷ xs) zero d t u = (and_yes (p x) (every p xs) t).0
  every_get_d (x ∷ xs) (suc k) d t u = every_get_d xs k d (and_yes (p x) (every p xs) t).1 u

  pub every_drop : (n : ℕ) (l : List A) → T (every p l) → T (every p (drop n l))
  every_drop zero l t = t
  every_drop (suc n) [] t = tt
  every_drop (suc n) (y ∷ ys) t = every_drop n ys (and_yes (p y) (every p ys) t).1

  pub every_take : (n : ℕ) (l : List A) → T (every p l) → T (every p (take n l))
  every_take zero l t = tt
  every_take (suc n) [] t = tt
  every_take (suc n) (y ∷ ys) t = let h = and_yes (p y) (every p ys) t in yes_and (p y) (every p (take n ys)) h.0 (every_take n ys h.1)

  pub every_append : (l k : List A) → T (every p l) → T (every p k) → T (every p (l ++ k))
  every_append [] k t u = u
  every_append (y ∷ ys) k t u = let h = and_yes (p y) (every p ys) t in yes_and (p y) (every p (ys ++ k)) h.0 (every_append ys k h.1 u)

  pub every_replicate : (n : ℕ) (x : A) → T (p x) → T (every p (replicate n x))
  every_replicate zero x t = tt
  every_replicate (suc n) x t = yes_and (p x) (every p (replicate n x)) t (every_replicate n x t)

  pub every_set : (l : List A) (i : ℕ) (x : A) → T (p x) → T (every p l) → T (every p (replace_at l i x))
  every_set [] i x u t = tt
  every_set (y ∷ ys) zero x u t = yes_and (p x) (every p ys) u (and_yes (p y) (every p ys) t).1
  every_set (y ∷ ys) (suc i) x u t = let h = and_yes (p y) (every p ys) t in yes_and (p y) (every p (replace_at ys i x)) h.0 (every_set ys i x u h.1)

module _ {A : Type 0} where
  -- the only element that passes the test is the first
  pub first_only : (p : A → Bool) (l : List A) {x : A} → x ∈ l → T (p x) → ((y : A) → y ∈ l → T (p y) → y ≡ x) → first p l ≡ some x
  first_only p l {x} m t only = step (first p l) refl
    where
      step : (o : Option A) → first p l ≡ o → o ≡ some x
      step none e = absurd (T_not (p x) t (first_none p l e x m))
      step (some y) e = let r = first_some p l e in ap {B = Option A} some (only y r.0 r.1)

  -- members of an ascending list of which neither comes before the other are one
  pub ascending_one : (R : A → A → Type 0) (l : List A) → Ascending R l → {x y : A} → x ∈ l → y ∈ l → ¬ R x y → ¬ R y x → x ≡ y
  ascending_one R [] a m n f h = absurd (Memᴰ.not-nil m)
  ascending_one R (z ∷ zs) a {x} {y} m n f h =
      ⊎_elim
      (λ (p : x ≡ z). ⊎_elim (λ (q : y ≡ z). p ∙ sym q) (λ (k : y ∈ zs). absurd (f (subst (λ w. R w y) (sym p) (a.0 y k)))) (Memᴰ.cases_cons n))
      (λ (j : x ∈ zs).
      ⊎_elim (λ (q : y ≡ z). absurd (h (subst (λ w. R w x) (sym q) (a.0 x j)))) (λ (k : y ∈ zs). ascending_one R zs a.1 j k f h) (Memᴰ.cases_cons n))
      (Memᴰ.cases_cons m)

  module _ (R : A → A → Type 0) (irreflexive : (x : A) → ¬ R x x) (transitive : (x y z : A) → R x y → R y z → R x z) (p : A → Bool) where
    -- no element before the first that passes the test passes it
    first_before : (l : List A) → Ascending R l → {x : A} → first p l ≡ some x → (y : A) → y ∈ l → R y x → T (not (p y))
    first_before [] a e y m r = absurd (Memᴰ.not-nil m)
    first_before (z ∷ zs) a {x} e y m r = step (p z) refl (λ q n. first_before zs a.1 q y n r) e
      where
        step : (b : Bool) → p z ≡ b → (first p zs ≡ some x → y ∈ zs → T (not (p y))) → cond b (some z) (first p zs) ≡ some x → T (not (p y))
        step true b below q =
            let s : R y z = subst (R y) (sym (some-injective z x q)) r in
            ⊎_elim (λ (i : y ≡ z). absurd (irreflexive z (subst (λ w. R w z) i s))) (λ (n : y ∈ zs). absurd (irreflexive z (transitive z y z (a.0 y n) s))) (Memᴰ.cases_cons m)
        step false b below q = ⊎_elim (λ (i : y ≡ z). rw (i, b) tt) (below q) (Memᴰ.cases_cons m)

    -- the first of an ascending list that passes a test: it passes, and no element before it does
    pub first_ascending : (l : List A) → Ascending R l → (x : A) → (first p l ≡ some x) ↔ (x ∈ l × T (p x) × ((y : A) → y ∈ l → R y x → T (not (p y))))
    first_ascending l a x = (
      λ e. let r = first_some p l e in (r.0, r.1, first_before l a e),
      λ h. step h.0 h.1 h.2 (first p l) refl,
    )
      where
        step : x ∈ l → T (p x) → ((y : A) → y ∈ l → R y x → T (not (p y))) → (o : Option A) → first p l ≡ o → o ≡ some x
        step m t least none e = absurd (T_not (p x) t (first_none p l e x m))
        step m t least (some y) e =
            let r = first_some p l e in
            ap {B = Option A} some
            (ascending_one R l a r.0 m (λ y-x. T_not (p y) r.1 (least y r.0 y-x)) (λ x-y. T_not (p x) t (first_before l a e x m x-y)))
