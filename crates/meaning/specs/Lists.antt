-- Operations on lists and optional values that the definitions of document 01 are written in.
use Rattle.std.specs.Prelude.{ℕ, suc, Bool, true, false, ◌&&◌, ◌||◌, cond, T, ltb, eqb}
use mathlib.Core.List.{List, [], ◌∷◌, Memᴰ}
use Rattle.std.proofs.Math.Option.{Option, none, some}

infix 50 ◌∈◌
-- the element is one of the list
abbrev pub ◌∈◌ : {A : Type 0} → A → List A → Type 0
x ∈ l = Memᴰ x l

module _ {A : Type 0} where
  abbrev pub is_empty : List A → Bool
  is_empty [] = true
  is_empty (x ∷ xs) = false

  -- some element passes the test
  abbrev pub any : (A → Bool) → List A → Bool
  any p [] = false
  any p (x ∷ xs) = p x || any p xs

  -- every element passes the test
  abbrev pub every : (A → Bool) → List A → Bool
  every p [] = true
  every p (x ∷ xs) = p x && every p xs

  -- the elements that pass the test, in their order
  abbrev pub keep : (A → Bool) → List A → List A
  keep p [] = []
  keep p (x ∷ xs) = cond (p x) (x ∷ keep p xs) (keep p xs)

  -- the first element that passes the test
  abbrev pub first : (A → Bool) → List A → Option A
  first p [] = none
  first p (x ∷ xs) = cond (p x) (some x) (first p xs)

  -- there is a value, and it passes the test
  abbrev pub holds : (A → Bool) → Option A → Bool
  holds p none = false
  holds p (some x) = p x

  -- the first of the two that is there
  abbrev pub first_of : Option A → Option A → Option A
  first_of none b = b
  first_of (some a) b = some a

  -- The place, from n, of the first faulty row. A row is judged by its place, the row before it and itself.
  abbrev pub fault_from : (ℕ → Option A → A → Bool) → ℕ → Option A → List A → Option ℕ
  fault_from faulty n previous [] = none
  fault_from faulty n previous (x ∷ xs) = cond (faulty n previous x) (some n) (fault_from faulty (suc n) (some x) xs)

  abbrev pub first_fault : (ℕ → Option A → A → Bool) → List A → Option ℕ
  first_fault faulty rows = fault_from faulty 0 none rows

  -- "ascending, none twice": each element stands in the relation to all that come after it
  abbrev pub Ascending : (A → A → Type 0) → List A → Type 0
  Ascending R [] = Unit {0}
  Ascending R (x ∷ xs) = ((y : A) → y ∈ xs → R x y) × Ascending R xs

-- The order of rows by their keys: number by number.
abbrev pub before : List ℕ → List ℕ → Bool
before [] ys = false
before (x ∷ xs) [] = false
before (x ∷ xs) (y ∷ ys) = ltb x y || (eqb x y && before xs ys)

-- the two lists of numbers are one, as keys and as names
abbrev pub same_list : List ℕ → List ℕ → Bool
same_list [] [] = true
same_list [] (y ∷ ys) = false
same_list (x ∷ xs) [] = false
same_list (x ∷ xs) (y ∷ ys) = eqb x y && same_list xs ys

module _ {A : Type 0} (key : A → List ℕ) where
  -- the first comes before the second, by their keys
  abbrev pub Before : A → A → Type 0
  Before x y = T (before (key x) (key y))

  -- the row comes after the one before it, if there is one
  abbrev pub ascends : Option A → A → Bool
  ascends none x = true
  ascends (some p) x = before (key p) (key x)

  -- Into its place in an ascending list. What is there already is not put in twice.
  abbrev pub put_in_order : A → List A → List A
  put_in_order x [] = x ∷ []
  put_in_order x (y ∷ ys) =
      cond (before (key x) (key y)) (x ∷ y ∷ ys)
      (cond (before (key y) (key x)) (y ∷ put_in_order x ys) (y ∷ ys))
