-- Every name of the table is found at its place, and what is found is the name at that place.
use Prim.Native.Nat.{ℕ, zero, suc, ◌+◌, ◌<◌}
use mathlib.Core.Path.{◌≡◌, refl, sym, ap, ◌∙◌, subst}
use mathlib.Core.Bool.{Bool, true, false, ◌&&◌, cond, false≢true}
use mathlib.Core.List.{List, [], ◌∷◌}
use mathlib.Core.Option.{Option, none, some, some-injective, none-ne-some}
use native.Mathlib.Nat.{not-suc-le-zero}
use native.Mathlib.Omega.{arith}
use native.Mathlib.Decide.{ℕ_discrete}
use borrow.Author.Tests.{eqb-true}
use lib.Dec.{T, eqb}
use lib.ListN.{length, get_or}
use Rattle.meaning.specs.Lists.{every, holds, same_list}
use Rattle.meaning.proofs.Order.{same_list_eq}
use Rattle.lexical.proofs.Runs.{both}
use Rattle.text.specs.Names.{names, name_count, name_of, is_letter, place_from, place_of}

-- ---- one test of the whole table

-- the name is letters and is found at its place; and so is each before it
abbrev sound : ℕ → Bool
sound k = holds (λ j. eqb j k) (place_of (name_of k)) && every is_letter (name_of k)

all_sound : ℕ → Bool
all_sound zero = true
all_sound (suc n) = sound n && all_sound n

tested : all_sound name_count ≡ true
unfolding all_sound place_of names
tested = refl

below : (n k : ℕ) → all_sound n ≡ true → k < n → sound k ≡ true
unfolding all_sound
below zero k e h = absurd (not-suc-le-zero h)
below (suc n) k e h = go (both (sound n) (all_sound n) e) (λ q. below n k q) (ℕ_discrete k n)
  where
    go : (sound n ≡ true) × (all_sound n ≡ true) → (all_sound n ≡ true → k < n → sound k ≡ true) → Dec (k ≡ n) → sound k ≡ true
    go f before (yes q) = ap sound q ∙ f.0
    go f before (no q) = before f.1 (omega arith)

name_sound : (k : ℕ) → k < name_count → (holds (λ j. eqb j k) (place_of (name_of k)) ≡ true) × (every is_letter (name_of k) ≡ true)
name_sound k h = both (holds (λ j. eqb j k) (place_of (name_of k))) (every is_letter (name_of k)) (below name_count k tested h)

is_held : (o : Option ℕ) (k : ℕ) → holds (λ j. eqb j k) o ≡ true → o ≡ some k
is_held none k e = absurd (false≢true e)
is_held (some j) k e = ap some (eqb-true j k e)

pub name_placed : (k : ℕ) → k < name_count → place_of (name_of k) ≡ some k
name_placed k h = is_held (place_of (name_of k)) k (name_sound k h).0

pub name_letters : (k : ℕ) → k < name_count → every is_letter (name_of k) ≡ true
name_letters k h = (name_sound k h).1

-- ---- what is found

-- among names the first of which has place i, one is l, and it has place k
record Found (l : List ℕ) (i : ℕ) (ns : List (List ℕ)) (k : ℕ) : Type 0 where
  nth : ℕ
  place : k ≡ i + nth
  is : get_or ns nth [] ≡ l
  within : nth < length ns

found : (l : List ℕ) (i : ℕ) (ns : List (List ℕ)) (k : ℕ) → place_from l i ns ≡ some k → Found l i ns k
found l i [] k e = absurd (none-ne-some k e)
found l i (n ∷ ns) k e = go (same_list l n) refl (λ q. found l (suc i) ns k q) e
  where
    go : (b : Bool) → same_list l n ≡ b → (place_from l (suc i) ns ≡ some k → Found l (suc i) ns k) → cond b (some i) (place_from l (suc i) ns) ≡ some k
        → Found l i (n ∷ ns) k
    go true s after q =
        record { nth = 0; place = omega (arith, some-injective i k q); is = sym (same_list_eq l n (subst T (sym s) tt)); within = omega arith }
    go false s after q = let f = after q in record { nth = suc f.nth; place = omega arith; is = f.is; within = omega arith }

pub name_found : (l : List ℕ) (k : ℕ) → place_of l ≡ some k → (name_of k ≡ l) × (k < name_count)
unfolding place_of names
name_found l k e =
    let f = found l 0 names k e in
    let q : k ≡ f.nth = omega arith in
    (rw q f.is, omega arith)
