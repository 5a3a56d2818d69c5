-- Names as numbers: letters are determined by the number that they pack to.
use Prim.Native.Nat.{ℕ, zero, suc, ◌+◌, ◌-◌, ◌*◌, ◌^◌, ◌≤◌, ◌<◌}
use mathlib.Core.Path.{◌≡◌, refl, ap, ◌∙◌}
use mathlib.Core.Bool.{Bool, true, false, ◌&&◌, cond}
use mathlib.Core.List.{List, [], ◌∷◌, map}
use mathlib.Core.Option.{Option, none, some}
use native.Mathlib.Nat.{pow-succ'}
use native.Mathlib.Numerals.{add-one}
use native.Mathlib.Omega.{arith}
use borrow.Author.Tests.{leb-true, eq-eqb, ne_eqb, eqb-true, eqb-false}
use lib.Dec.{eqb, leb}
use lib.ListN.{length, get_or, take, drop}
use lib.Seq.{drop-cons}
use Rattle.meaning.specs.Lists.{every, same_list}
use Rattle.lexical.proofs.Runs.{both}
use Rattle.text.specs.Names.{names, name_count, name_of, is_letter, place_from, place_of}
use Rattle.text.proofs.Names.{name_letters, name_found}
use Rattle.tokens.specs.Tokens.{packed}

-- ---- letters

letter_is : (b : ℕ) → is_letter b ≡ true → (97 ≤ b) × (b ≤ 122)
letter_is b e = let h = both (leb 97 b) (leb b 122) e in (leb-true 97 b h.0, leb-true b 122 h.1)

-- ---- packing

-- one byte more, in front
pub packed_more : (t : List ℕ) (i m : ℕ) → i < length t → packed (take (suc m) (drop i t)) ≡ get_or t i 0 + 256 * packed (take m (drop (suc i) t))
unfolding packed
packed_more t i m h = rw (drop-cons t i 0 h)

pub pack_more : (t : List ℕ) (at end i v : ℕ) → at < i → i ≤ end → i ≤ length t → v ≡ packed (take (end - i) (drop i t)) → v * 256 + get_or t (i - 1) 0 ≡ packed (take (end - (i - 1)) (drop (i - 1) t))
pack_more t at end i v h k l e =
    let n : end - (i - 1) ≡ suc (end - i) = omega arith in
    let j : suc (i - 1) ≡ i = omega arith in
    let q = packed_more t (i - 1) (end - i) (omega arith) in
    rw n (omega (arith, q, ap (λ (x : ℕ). packed (take (end - i) (drop x t))) j))

pub power_more : (end i v b : ℕ) → 0 < i → i ≤ end → v < 256 ^ (end - i) → b < 256 → v * 256 + b < 256 ^ (end - (i - 1))
power_more end i v b h k s t =
    let n : end - (i - 1) ≡ suc (end - i) = omega arith in
    rw (n, pow-succ') (omega arith)

-- letters that pack to one number are the same
pub packed_same : (a b : List ℕ) → every is_letter a ≡ true → every is_letter b ≡ true → eqb (packed b) (packed a) ≡ same_list a b
unfolding packed
packed_same [] [] e f = refl
packed_same [] (y ∷ b) e f =
    let h = letter_is y (both (is_letter y) (every is_letter b) f).0 in
    ne_eqb (y + 256 * packed b) 0 (λ q. omega arith)
packed_same (x ∷ a) [] e f =
    let h = letter_is x (both (is_letter x) (every is_letter a) e).0 in
    ne_eqb 0 (x + 256 * packed a) (λ q. omega arith)
packed_same (x ∷ a) (y ∷ b) e f =
    let k = both (is_letter x) (every is_letter a) e in
    let l = both (is_letter y) (every is_letter b) f in
    let h = letter_is x k.0 in
    let g = letter_is y l.0 in
    go (eqb x y) (eqb (packed b) (packed a)) refl refl h g (packed_same a b k.1 l.1)
  where
    go : (p q : Bool) → eqb x y ≡ p → eqb (packed b) (packed a) ≡ q → (97 ≤ x) × (x ≤ 122) → (97 ≤ y) × (y ≤ 122)
        → eqb (packed b) (packed a) ≡ same_list a b → eqb (y + 256 * packed b) (x + 256 * packed a) ≡ (eqb x y && same_list a b)
    go true true m n h g i =
        let u = eqb-true x y m in
        let v = eqb-true (packed b) (packed a) n in
        rw (m, ← i, n) (eq-eqb (y + 256 * packed b) (x + 256 * packed a) (omega arith))
    go true false m n h g i =
        let u = eqb-true x y m in
        let v = eqb-false (packed b) (packed a) n in
        rw (m, ← i, n) (ne_eqb (y + 256 * packed b) (x + 256 * packed a) (λ w. v (omega arith)))
    go false q m n h g i =
        let u = eqb-false x y m in
        rw m (ne_eqb (y + 256 * packed b) (x + 256 * packed a) (λ w. u (omega arith)))

-- ---- the table

unfoldable pub name_words : List ℕ
name_words = map packed names

mapped : {A B : Type 0} (f : A → B) (l : List A) (d : A) (e : B) (k : ℕ) → k < length l → get_or (map f l) k e ≡ f (get_or l k d)
mapped f [] d e k h = absurd (omega arith)
mapped f (x ∷ l) d e zero h = refl
mapped f (x ∷ l) d e (suc k) h = mapped f l d e k (omega arith)

within : (k : ℕ) → k < name_count → k < length names
unfolding names
within k h = h

word_at : (k : ℕ) → k < name_count → get_or name_words k 0 ≡ packed (name_of k)
unfolding name_words
word_at k h = mapped packed names [] 0 k (within k h)

-- the search from a name on
pub place_step : (l : List ℕ) (k : ℕ) → k < name_count → place_from l k (drop k names) ≡ cond (same_list l (name_of k)) (some k) (place_from l (k + 1) (drop (k + 1) names))
place_step l k h = rw (add-one, drop-cons names k [] (within k h))

pub place_one : (l : List ℕ) (k : ℕ) → every is_letter l ≡ true → k < name_count
    → place_from l k (drop k names) ≡ cond (eqb (get_or name_words k 0) (packed l)) (some k) (place_from l (k + 1) (drop (k + 1) names))
place_one l k e h = rw (word_at k h, packed_same l (name_of k) e (name_letters k h)) (place_step l k h)

pub place_past : (l : List ℕ) → place_from l name_count (drop name_count names) ≡ none
unfolding names
place_past l = refl

-- no name has more than seven letters, and each has two
abbrev sized : ℕ → Bool
sized k = leb 2 (length (name_of k)) && leb (length (name_of k)) 7

all_sized : ℕ → Bool
all_sized zero = true
all_sized (suc n) = sized n && all_sized n

tested : all_sized name_count ≡ true
unfolding all_sized names
tested = refl

below : (n k : ℕ) → all_sized n ≡ true → k < n → sized k ≡ true
unfolding all_sized
below zero k e h = absurd (omega arith)
below (suc n) k e h = go (both (sized n) (all_sized n) e) (λ q. below n k q) (eqb k n) refl
  where
    go : (sized n ≡ true) × (all_sized n ≡ true) → (all_sized n ≡ true → k < n → sized k ≡ true) → (b : Bool) → eqb k n ≡ b → sized k ≡ true
    go f before true q = ap sized (eqb-true k n q) ∙ f.0
    go f before false q = before f.1 (omega (arith, eqb-false k n q))

pub name_size : (l : List ℕ) (k : ℕ) → place_of l ≡ some k → (2 ≤ length l) × (length l ≤ 7)
name_size l k e =
    let f = name_found l k e in
    let s = both (leb 2 (length (name_of k))) (leb (length (name_of k)) 7) (below name_count k tested f.1) in
    let few : 2 ≤ length (name_of k) = leb-true _ _ s.0 in
    let many : length (name_of k) ≤ 7 = leb-true _ _ s.1 in
    (rw f.0 at few, rw f.0 at many)

pub name_long : (l : List ℕ) → 7 < length l → place_of l ≡ none
name_long l h = go (place_of l) refl
  where
    go : (o : Option ℕ) → place_of l ≡ o → o ≡ none
    go none e = refl
    go (some k) e = absurd (omega (arith, name_size l k e))
