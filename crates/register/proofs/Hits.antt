-- The first row that passes a test, and what `first` finds.
use Prim.Native.Nat.{ℕ, zero, suc, ◌+◌, ◌-◌, ◌≤◌, ◌<◌}
use mathlib.Core.Path.{◌≡◌, refl, sym, ap, subst, ◌∙◌}
use mathlib.Core.Logic.{◌⊎◌, inl, inr, ⊎_elim}
use mathlib.Core.Bool.{Bool, true, false, ◌&&◌, ◌||◌, not, cond}
use mathlib.Core.List.{List, [], ◌∷◌, map}
use mathlib.Core.Option
use mathlib.Core.Option.{Option, none, some, none-ne-some}
use native.Mathlib.Nat.{le_refl}
use native.Mathlib.Numerals.{add-one}
use native.Mathlib.Omega.{arith}
use lib.Dec.{T, ltb}
use mir.Facts.{ltb_yes, ltb_no}
use Rattle.meaning.specs.Lists.{any, keep, first, holds, fault_from, first_fault}
use Rattle.meaning.proofs.Lists.{so_false, decide}
use Rattle.rows.specs.Rows.{rows_from, read_rows}
use Rattle.schema.proofs.Scan.{Passed, passed_none, passed_more, passed_found, passed_all}

T_true : (b : Bool) → T b → b ≡ true
T_true true t = refl
T_true false t = absurd t

-- a row is judged by itself
abbrev pub alone : {A : Type 0} → (A → Bool) → ℕ → Option A → A → Bool
alone hit m previous x = hit x

module _ {A : Type 0} (hit : A → Bool) (read : ℕ → A) where
  -- the first of n rows that passes the test
  abbrev pub first_hit : ℕ → Option ℕ
  first_hit n = first_fault (alone hit) (read_rows read n)

  module _ (n : ℕ) where
    pub missed_one : {i : ℕ} → Passed (alone hit) read n i → i < n → T (not (hit (read i))) → Passed (alone hit) read n (i + 1)
    missed_one {i} p h t = passed_more (alone hit) read n p h (so_false (hit (read i)) t)

    -- rows that do not pass the test are passed over
    missed_on : (i d : ℕ) → Passed (alone hit) read n i → i + d ≤ n → ((j : ℕ) → i ≤ j → j < n → T (not (hit (read j)))) → Passed (alone hit) read n (i + d)
    missed_on i zero p h miss = subst (Passed (alone hit) read n) (omega arith) p
    missed_on i (suc d) p h miss =
        subst (Passed (alone hit) read n) (omega arith)
        (missed_one (missed_on i d p (omega arith) miss) (omega arith) (miss (i + d) (omega arith) (omega arith)))

    -- the rows before row i are passed, and none from there on passes the test
    pub hit_none : {i : ℕ} → Passed (alone hit) read n i → ((j : ℕ) → i ≤ j → j < n → T (not (hit (read j)))) → first_hit n ≡ none
    hit_none {i} p miss = ⊎_elim (λ h. passed_all (alone hit) read n p (ltb_no h)) ends (flip (decide (ltb i n)))
      where
        flip : {B C : Type 0} → B ⊎ C → C ⊎ B
        flip (inl b) = inr b
        flip (inr c) = inl c

        ends : T (ltb i n) → first_hit n ≡ none
        ends h =
            let l : i < n = ltb_yes h in
            passed_all (alone hit) read n (missed_on i (n - i) p (omega arith) miss) (omega arith)

    pub hit_at : {i : ℕ} → Passed (alone hit) read n i → i < n → T (hit (read i)) → first_hit n ≡ some i
    hit_at {i} p h t = passed_found (alone hit) read n p h (T_true (hit (read i)) t)

  pub missed_to : (n i : ℕ) → i ≤ n → ((j : ℕ) → j < i → T (not (hit (read j)))) → Passed (alone hit) read n i
  missed_to n zero h miss = passed_none (alone hit) read n
  missed_to n (suc i) h miss =
      subst (Passed (alone hit) read n) (add-one i)
      (missed_one n (missed_to n i (omega arith) (λ j l. miss j (omega arith))) h (miss i (le_refl (suc i))))

module _ {A : Type 0} (hit : A → Bool) where
  first_from : (read : ℕ → A) (j n : ℕ) (previous : Option A) → first hit (rows_from read j n) ≡ Option.map read (fault_from (alone hit) j previous (rows_from read j n))
  first_from read j zero previous = refl
  first_from read j (suc n) previous = step (hit (read j)) (first_from read (suc j) n (some (read j)))
    where
      after : Option A
      after = first hit (rows_from read (suc j) n)

      place : Option ℕ
      place = fault_from (alone hit) (suc j) (some (read j)) (rows_from read (suc j) n)

      step : (b : Bool) → after ≡ Option.map read place → cond b (some (read j)) after ≡ Option.map read (cond b (some j) place)
      step true below = refl
      step false below = below

  -- the first element that passes the test is that of the first row
  pub first_row : (read : ℕ → A) (n : ℕ) → first hit (read_rows read n) ≡ Option.map read (first_hit hit read n)
  first_row read n = first_from read 0 n none

  -- some element passes the test where some row does
  pub any_row : (read : ℕ → A) (n : ℕ) → any hit (read_rows read n) ≡ holds (λ i. true) (first_hit hit read n)
  any_row read n = any_first (read_rows read n) ∙ ap (holds (λ x. true)) (first_row read n) ∙ there (first_hit hit read n)
    where
      any_first : (l : List A) → any hit l ≡ holds (λ x. true) (first hit l)
      any_first [] = refl
      any_first (x ∷ xs) = step (hit x) (any_first xs)
        where
          step : (b : Bool) → any hit xs ≡ holds (λ x. true) (first hit xs) → (b || any hit xs) ≡ holds (λ x. true) (cond b (some x) (first hit xs))
          step true below = refl
          step false below = below

      there : (o : Option ℕ) → holds (λ x. true) (Option.map read o) ≡ holds (λ i. true) o
      there none = refl
      there (some i) = refl

-- the first value, of the elements that are kept, that passes a test
pub first_kept : {A B : Type 0} (p : A → Bool) (f : A → B) (q : B → Bool) (l : List A) → first q (map f (keep p l)) ≡ Option.map f (first (λ x. p x && q (f x)) l)
first_kept p f q [] = refl
first_kept {A} p f q (x ∷ xs) = step (p x) (q (f x)) refl (first_kept p f q xs)
  where
    rest : Option A
    rest = first (λ y. p y && q (f y)) xs

    step : (b d : Bool) → q (f x) ≡ d → first q (map f (keep p xs)) ≡ Option.map f rest → first q (map f (cond b (x ∷ keep p xs) (keep p xs))) ≡ Option.map f (cond (b && d) (some x) rest)
    step true true e below = rw e
    step true false e below = rw e below
    step false d e below = below

-- a row that is found passes the test
pub hit_some : {A : Type 0} (hit : A → Bool) (read : ℕ → A) (n : ℕ) {i : ℕ} → first_hit hit read n ≡ some i → (i < n) × T (hit (read i))
hit_some {A} hit read n {i} e = let r = from 0 n none e in (omega (arith, r.0), r.1)
  where
    from : (j m : ℕ) (previous : Option A) → fault_from (alone hit) j previous (rows_from read j m) ≡ some i → (i < j + m) × T (hit (read i))
    from j zero previous e = absurd (none-ne-some i e)
    from j (suc m) previous e = step (hit (read j)) refl (from (suc j) m (some (read j))) e
      where
        rest : Option ℕ
        rest = fault_from (alone hit) (suc j) (some (read j)) (rows_from read (suc j) m)

        step : (b : Bool) → hit (read j) ≡ b → (rest ≡ some i → (i < suc j + m) × T (hit (read i))) → cond b (some j) rest ≡ some i → (i < j + suc m) × T (hit (read i))
        step true q below e = let same : j ≡ i = cc in (omega arith, subst (λ k. T (hit (read k))) same (subst T (sym q) tt))
        step false q below e = let r = below e in (omega (arith, r.0), r.1)
