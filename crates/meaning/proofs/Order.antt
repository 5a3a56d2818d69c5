-- The order of keys, once for objects, links, pairs and event types: `before` is a strict total order on keys of one length.
-- What `put_in_order` puts where, and what a table without a fault is.
use Prim.Native.Nat.{ℕ, zero, suc, ◌+◌, ◌≤◌, ◌<◌, suc-le-suc}
use mathlib.Core.Path.{◌≡◌, refl, sym, ap, ap₂, subst, ◌∙◌}
use mathlib.Core.Logic.{◌⊎◌, inl, inr, ⊎_elim}
use mathlib.Core.Bool.{Bool, true, false, ◌&&◌, not, cond}
use mathlib.Core.List.Memᴰ
use mathlib.Core.List.{List, [], ◌∷◌}
use mathlib.Core.Option.{Option, none, some, none-ne-some, some-injective}
use native.Mathlib.Nat.{add-zero, zero-add, eq-or-lt_of_le, le_refl, lt_irrefl, ne_of_lt, suc_inj}
use native.Mathlib.Omega.{arith}
use lib.Dec.{T, ltb, eqb, eqb_refl}
use lib.ListN.{length, get_elem?}
use mir.Facts.{and_yes, yes_and, or_yes, T_not, not_T, T_not-not, ltb_yes, ltb_no, yes_ltb, eqb_yes, yes_eqb}
use Rattle.meaning.specs.Lists.{first, Before, before, same_list, ascends, put_in_order, fault_from, first_fault, ◌∈◌, Ascending}
use Rattle.meaning.proofs.Lists.{or_left, or_right, decide, cond_no}

-- ---- keys

lt_cases : (a b : ℕ) → (a < b) ⊎ ((a ≡ b) ⊎ (b < a))
lt_cases a b = ⊎_elim (λ t. inl (ltb_yes t)) (λ t. inr (flip (eq-or-lt_of_le (ltb_no t)))) (decide (ltb a b))
  where
    flip : (b ≡ a) ⊎ (b < a) → (a ≡ b) ⊎ (b < a)
    flip (inl e) = inl (sym e)
    flip (inr h) = inr h

module _ (x y : ℕ) (xs ys : List ℕ) where
  before_cases : T (before (x ∷ xs) (y ∷ ys)) → (x < y) ⊎ ((x ≡ y) × T (before xs ys))
  before_cases t = step (or_yes (ltb x y) (eqb x y && before xs ys) t)
    where
      step : T (ltb x y) ⊎ T (eqb x y && before xs ys) → (x < y) ⊎ ((x ≡ y) × T (before xs ys))
      step (inl h) = inl (ltb_yes h)
      step (inr h) = let r = and_yes (eqb x y) (before xs ys) h in inr (eqb_yes r.0, r.1)

  pub before_head : x < y → T (before (x ∷ xs) (y ∷ ys))
  before_head h = or_left (ltb x y) (eqb x y && before xs ys) (yes_ltb h)

  pub before_tail : x ≡ y → T (before xs ys) → T (before (x ∷ xs) (y ∷ ys))
  before_tail e t = or_right (ltb x y) (eqb x y && before xs ys) (yes_and (eqb x y) (before xs ys) (yes_eqb e) t)

pub before_one : (x y : ℕ) → T (before (x ∷ []) (y ∷ [])) → x < y
before_one x y t = ⊎_elim (λ (u : T (ltb x y)). ltb_yes u) (λ u. absurd (and_yes (eqb x y) false u).1) (or_yes (ltb x y) (eqb x y && false) t)

pub before_last : (x y : ℕ) (k l : List ℕ) → x ≡ y → T (before (x ∷ k) (y ∷ l)) → T (before k l)
before_last x y k l e t =
    ⊎_elim (λ (u : T (ltb x y)). absurd (ne_of_lt (ltb_yes u) e)) (λ u. (and_yes (eqb x y) (before k l) u).1) (or_yes (ltb x y) (eqb x y && before k l) t)

pub before_first : (x y u v : ℕ) → u ≡ v → T (before (x ∷ u ∷ []) (y ∷ v ∷ [])) → x < y
before_first x y u v e t =
    ⊎_elim (λ (h : T (ltb x y)). ltb_yes h) (λ h. absurd (ne_of_lt (before_one u v (and_yes (eqb x y) (before (u ∷ []) (v ∷ [])) h).1) e))
    (or_yes (ltb x y) (eqb x y && before (u ∷ []) (v ∷ [])) t)

pub before_irreflexive : (x : List ℕ) → ¬ T (before x x)
before_irreflexive [] t = t
before_irreflexive (x ∷ xs) t = ⊎_elim (λ h. lt_irrefl x h) (λ r. before_irreflexive xs r.1) (before_cases x x xs xs t)

pub before_transitive : (x y z : List ℕ) → T (before x y) → T (before y z) → T (before x z)
before_transitive [] y z s t = s
before_transitive (x ∷ xs) [] z s t = absurd s
before_transitive (x ∷ xs) (y ∷ ys) [] s t = t
before_transitive (x ∷ xs) (y ∷ ys) (z ∷ zs) s t =
    step (before_cases x y xs ys s) (before_cases y z ys zs t) (before_transitive xs ys zs)
  where
    step : (x < y) ⊎ ((x ≡ y) × T (before xs ys)) → (y < z) ⊎ ((y ≡ z) × T (before ys zs)) → (T (before xs ys) → T (before ys zs) → T (before xs zs)) → T (before (x ∷ xs) (z ∷ zs))
    step (inl h) (inl k) tails = before_head x z xs zs (omega arith)
    step (inl h) (inr k) tails = before_head x z xs zs (omega arith)
    step (inr h) (inl k) tails = before_head x z xs zs (omega arith)
    step (inr h) (inr k) tails = before_tail x z xs zs (omega arith) (tails h.1 k.1)

pub before_total : (x y : List ℕ) → length x ≡ length y → T (before x y) ⊎ ((x ≡ y) ⊎ T (before y x))
before_total [] [] e = inr (inl refl)
before_total [] (y ∷ ys) e = absurd (omega arith)
before_total (x ∷ xs) [] e = absurd (omega arith)
before_total (x ∷ xs) (y ∷ ys) e = step (lt_cases x y) (before_total xs ys (suc_inj e))
  where
    step : (x < y) ⊎ ((x ≡ y) ⊎ (y < x)) → T (before xs ys) ⊎ ((xs ≡ ys) ⊎ T (before ys xs)) → T (before (x ∷ xs) (y ∷ ys)) ⊎ ((x ∷ xs ≡ y ∷ ys) ⊎ T (before (y ∷ ys) (x ∷ xs)))
    step (inl h) r = inl (before_head x y xs ys h)
    step (inr (inr h)) r = inr (inr (before_head y x ys xs h))
    step (inr (inl p)) (inl t) = inl (before_tail x y xs ys p t)
    step (inr (inl p)) (inr (inl q)) = inr (inl (ap₂ ◌∷◌ p q))
    step (inr (inl p)) (inr (inr t)) = inr (inr (before_tail y x ys xs (sym p) t))

pub same_list_refl : (x : List ℕ) → T (same_list x x)
same_list_refl [] = tt
same_list_refl (x ∷ xs) = yes_and (eqb x x) (same_list xs xs) (eqb_refl x) (same_list_refl xs)

pub same_list_eq : (x y : List ℕ) → T (same_list x y) → x ≡ y
same_list_eq [] [] t = refl
same_list_eq [] (y ∷ ys) t = absurd t
same_list_eq (x ∷ xs) [] t = absurd t
same_list_eq (x ∷ xs) (y ∷ ys) t = let r = and_yes (eqb x y) (same_list xs ys) t in ap₂ ◌∷◌ (eqb_yes r.0) (same_list_eq xs ys r.1)

-- ---- tables

module _ {A : Type 0} where
  fault_step : (faulty : ℕ → Option A → A → Bool) (n : ℕ) (previous : Option A) (x : A) (xs : List A) → fault_from faulty n previous (x ∷ xs) ≡ none → T (not (faulty n previous x)) × (fault_from faulty (suc n) (some x) xs ≡ none)
  fault_step faulty n previous x xs e = step (faulty n previous x) e
    where
      step : (b : Bool) → cond b (some n) (fault_from faulty (suc n) (some x) xs) ≡ none → T (not b) × (fault_from faulty (suc n) (some x) xs ≡ none)
      step true q = absurd (none-ne-some n (sym q))
      step false q = (tt, q)

  fault_from_lem : (faulty : ℕ → Option A → A → Bool) (m : ℕ) (previous : Option A) (l : List A) → fault_from faulty m previous l ≡ none → (n : ℕ) (x : A) → get_elem? l n ≡ some x → (p : Option A) × T (not (faulty (m + n) p x))
  fault_from_lem faulty m previous [] e n x q = absurd (none-ne-some x q)
  fault_from_lem faulty m previous (y ∷ ys) e zero x q =
      (previous, rw (add-zero, ← some-injective y x q) (fault_step faulty m previous y ys e).0)
  fault_from_lem faulty m previous (y ∷ ys) e (suc n) x q =
      let r = fault_from_lem faulty (suc m) (some y) ys (fault_step faulty m previous y ys e).1 n x q in
      (r.0, subst (λ k. T (not (faulty k r.0 x))) (omega arith) r.1)

  -- a table without a fault has no faulty row
  pub fault_none : (faulty : ℕ → Option A → A → Bool) (l : List A) → first_fault faulty l ≡ none → (n : ℕ) (x : A) → get_elem? l n ≡ some x → (previous : Option A) × T (not (faulty n previous x))
  fault_none faulty l e n x q = rw zero-add at (fault_from_lem faulty 0 none l e n x q)

  -- what holds of the head and of each element after it holds of each element
  pub each_cons : (P : A → Type 0) (x : A) (xs : List A) → P x → ((y : A) → y ∈ xs → P y) → (y : A) → y ∈ (x ∷ xs) → P y
  each_cons P x xs h rest y m = ⊎_elim (λ (e : y ≡ x). subst P (sym e) h) (rest y) (Memᴰ.cases_cons m)

module _ {A : Type 0} (key : A → List ℕ) where
  ascends_after : (previous : Option A) (x y : A) → T (ascends key previous x) → Before key x y → T (ascends key previous y)
  ascends_after none x y s t = tt
  ascends_after (some p) x y s t = before_transitive (key p) (key x) (key y) s t

  module _ (fits : A → Bool) where
    abbrev good_row : Option A → A → Bool
    good_row previous x = ascends key previous x && fits x

    abbrev faulty_row : ℕ → Option A → A → Bool
    faulty_row n previous x = not (good_row previous x)

    rows_from_lem : (n : ℕ) (previous : Option A) (l : List A) → fault_from faulty_row n previous l ≡ none → Ascending (Before key) l × ((x : A) → x ∈ l → T (fits x)) × ((x : A) → x ∈ l → T (ascends key previous x))
    rows_from_lem n previous [] e = (tt, (λ x m. absurd (Memᴰ.not-nil m)), (λ x m. absurd (Memᴰ.not-nil m)))
    rows_from_lem n previous (x ∷ xs) e =
        let s = fault_step faulty_row n previous x xs e in
        let row = and_yes (ascends key previous x) (fits x) (T_not-not (good_row previous x) s.0) in
        let r = rows_from_lem (suc n) (some x) xs s.1 in (
          (r.2, r.0),
          each_cons (λ y. T (fits y)) x xs row.1 r.1,
          each_cons (λ y. T (ascends key previous y)) x xs row.0 (λ y m. ascends_after previous x y row.0 (r.2 y m)),
        )

    from_rows : (n : ℕ) (previous : Option A) (l : List A) → Ascending (Before key) l → ((x : A) → x ∈ l → T (fits x)) → ((x : A) → x ∈ l → T (ascends key previous x)) → fault_from faulty_row n previous l ≡ none
    from_rows n previous [] a h p = refl
    from_rows n previous (x ∷ xs) a h p =
        let row = yes_and (ascends key previous x) (fits x) (p x (Memᴰ.head refl)) (h x (Memᴰ.head refl)) in
        cond_no (faulty_row n previous x) (some n) _ (not_T (faulty_row n previous x) (T_not (good_row previous x) row))
        ∙ from_rows (suc n) (some x) xs a.1 (λ y m. h y (Memᴰ.tail m)) a.0

  -- a table that is checked for its order and each row by itself
  pub rows_fit : (fits : A → Bool) (l : List A) → first_fault (λ n previous x. not (ascends key previous x && fits x)) l ≡ none → Ascending (Before key) l × ((x : A) → x ∈ l → T (fits x))
  rows_fit fits l e = let r = rows_from_lem fits 0 none l e in (r.0, r.1)

  pub fits_rows : (fits : A → Bool) (l : List A) → Ascending (Before key) l → ((x : A) → x ∈ l → T (fits x)) → first_fault (λ n previous x. not (ascends key previous x && fits x)) l ≡ none
  fits_rows fits l a h = from_rows fits 0 none l a h (λ x m. tt)

  -- ---- place

  pub put_from : (x : A) (l : List A) {y : A} → y ∈ put_in_order key x l → (y ≡ x) ⊎ (y ∈ l)
  put_from x [] m = inl (Memᴰ.eq_of_singleton m)
  put_from x (z ∷ zs) {y} m = step (before (key x) (key z)) (before (key z) (key x)) (λ n. put_from x zs n) m
    where
      step : (b c : Bool) → (y ∈ put_in_order key x zs → (y ≡ x) ⊎ (y ∈ zs)) → y ∈ cond b (x ∷ z ∷ zs) (cond c (z ∷ put_in_order key x zs) (z ∷ zs)) → (y ≡ x) ⊎ (y ∈ (z ∷ zs))
      step true c below n = Memᴰ.cases_cons n
      step false true below n =
          ⊎_elim (λ e. inr (Memᴰ.head e)) (λ k. ⊎_elim inl (λ j. inr (Memᴰ.tail j)) (below k)) (Memᴰ.cases_cons n)
      step false false below n = inr n

  pub put_other : (x : A) (l : List A) {y : A} → y ∈ l → y ∈ put_in_order key x l
  put_other x [] m = absurd (Memᴰ.not-nil m)
  put_other x (z ∷ zs) {y} m = step (before (key x) (key z)) (before (key z) (key x)) (λ n. put_other x zs n)
    where
      step : (b c : Bool) → (y ∈ zs → y ∈ put_in_order key x zs) → y ∈ cond b (x ∷ z ∷ zs) (cond c (z ∷ put_in_order key x zs) (z ∷ zs))
      step true c below = Memᴰ.tail m
      step false true below = ⊎_elim Memᴰ.head (λ n. Memᴰ.tail (below n)) (Memᴰ.cases_cons m)
      step false false below = m

  module _ (width : ℕ) (one_Width : (x : A) → length (key x) ≡ width) where
    -- what is placed is there, or something of the same key is
    pub put_has : (x : A) (l : List A) → (z : A) × z ∈ put_in_order key x l × (key z ≡ key x)
    put_has x [] = (x, Memᴰ.head refl, refl)
    put_has x (y ∷ ys) = step (before (key x) (key y)) (before (key y) (key x)) refl refl (put_has x ys)
      where
        step : (b c : Bool) → before (key x) (key y) ≡ b → before (key y) (key x) ≡ c → (z : A) × z ∈ put_in_order key x ys × (key z ≡ key x) → (z : A) × z ∈ cond b (x ∷ y ∷ ys) (cond c (y ∷ put_in_order key x ys) (y ∷ ys)) × (key z ≡ key x)
        step true c p q below = (x, Memᴰ.head refl, refl)
        step false true p q below = (below.0, Memᴰ.tail below.1, below.2)
        step false false p q below = (
          y,
          Memᴰ.head refl,
          ⊎_elim (λ t. absurd (subst T p t)) (⊎_elim sym (λ t. absurd (subst T q t))) (before_total (key x) (key y) (one_Width x ∙ sym (one_Width y))),
        )

    pub put_ascending : (x : A) (l : List A) → Ascending (Before key) l → Ascending (Before key) (put_in_order key x l)
    put_ascending x [] a = ((λ y m. absurd (Memᴰ.not-nil m)), tt)
    put_ascending x (y ∷ ys) a = step (before (key x) (key y)) (before (key y) (key x)) refl refl (put_ascending x ys a.1)
      where
        step : (b c : Bool) → before (key x) (key y) ≡ b → before (key y) (key x) ≡ c → Ascending (Before key) (put_in_order key x ys) → Ascending (Before key) (cond b (x ∷ y ∷ ys) (cond c (y ∷ put_in_order key x ys) (y ∷ ys)))
        step true c p q r =
            let h : Before key x y = subst T (sym p) tt in
            (each_cons (Before key x) y ys h (λ z m. before_transitive (key x) (key y) (key z) h (a.0 z m)), a)
        step false true p q r =
            (λ z m. ⊎_elim (λ (e : z ≡ x). subst (Before key y) (sym e) (subst T (sym q) tt)) (a.0 z) (put_from x ys m), r)
        step false false p q r = a

-- what is placed and fails the test is passed over
pub first_put : {A : Type 0} (p : A → Bool) (key : A → List ℕ) (x : A) (l : List A) → T (not (p x)) → first p (put_in_order key x l) ≡ first p l
first_put p key x [] n = cond_no (p x) (some x) none n
first_put p key x (y ∷ ys) n = step (before (key x) (key y)) (before (key y) (key x)) (first_put p key x ys n)
  where
    step : (b c : Bool) → first p (put_in_order key x ys) ≡ first p ys → first p (cond b (x ∷ y ∷ ys) (cond c (y ∷ put_in_order key x ys) (y ∷ ys))) ≡ first p (y ∷ ys)
    step true c below = cond_no (p x) (some x) (first p (y ∷ ys)) n
    step false true below = ap (cond (p y) (some y)) below
    step false false below = refl

pub length_put : {A : Type 0} (key : A → List ℕ) (x : A) (l : List A) → length (put_in_order key x l) ≤ suc (length l)
length_put key x [] = le_refl 1
length_put key x (y ∷ ys) = step (before (key x) (key y)) (before (key y) (key x)) (length_put key x ys)
  where
    step : (b c : Bool) → length (put_in_order key x ys) ≤ suc (length ys) → length (cond b (x ∷ y ∷ ys) (cond c (y ∷ put_in_order key x ys) (y ∷ ys))) ≤ suc (suc (length ys))
    step true c below = le_refl (suc (suc (length ys)))
    step false true below = suc-le-suc below
    step false false below = omega arith
