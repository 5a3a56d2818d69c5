-- What document 01's reach rules say of each operator: where nothing moves its parts, the value before and the value after are
-- in order. The comparisons are in Comparisons.antt.
use Prim.Native.Nat.{ℕ, ◌<◌}
use mathlib.Core.Path.{◌≡◌, refl, sym, ap, ◌∙◌, subst}
use mathlib.Core.Logic.{⊎_elim, ∥∥₁_elim}
use mathlib.Core.Bool.{Bool, true, false, ◌&&◌, ◌||◌, not}
use mathlib.Core.List.Memᴰ
use mathlib.Core.List.{List, [], ◌∷◌, map, map_congr_left}
use native.Mathlib.Nat.{lt_irrefl, lt_trans}
use lib.Dec.{T}
use lib.ListN.{length}
use lib.IntN.{ℤ, pos, ◌+ℤ◌, +ℤ_idl, ℤ_set}
use lib.Signed.{◌≤ℤ◌, ≤ℤ_refl}
use mir.Facts.{and_yes, yes_and, or_yes, or_no, T_not, not_T}
use Rattle.meaning.specs.Lists.{keep, ◌∈◌, Ascending}
use Rattle.meaning.specs.Forms.{Sort, truth, number, collection, Connective, and, or, xor, implies, Quantifier, forall, exists, Arithmetic, add, sub}
use Rattle.meaning.specs.Meaning.{Value, connected, quantified, combined, total}
use Rattle.meaning.specs.Reach.{Direction, up, down, opposite, Passing, same, reversed, either, through, first_truth, second_truth, source_of, second_term, sum_source}
use Rattle.meaning.specs.Unmoved.{Below, Unmoved, Through}
use Rattle.meaning.proofs.Lists.{or_left, or_right, any_of, any_cases, every_of, every_at, keep_in, keep_from, ascending_unique, ascending_shorter}
use Rattle.meaning.proofs.Integers.{≤ℤ-trans, pos_mono, add_mono, sub_mono}

-- nothing moves through a part, as a test and as what follows from it
pub through_none : (p : Passing) (moved : Direction → Bool) (P : Direction → Type 0) (d : Direction) → ((e : Direction) → T (not (moved e)) → P e) → T (not (through ◌||◌ p moved d)) → Through p P d
through_none same moved P d h t = h d t
through_none reversed moved P d h t = h (opposite d) t
through_none either moved P d h t = let r = or_no (moved up) (moved down) t in (h up r.0, h down r.1)

-- Not moved up is not moved down with before and after exchanged: each law below is proved for down alone.
pub exchanged : (s : Sort) (p : Passing) (x y : Value s) → Through p (λ e. Unmoved s e x y) up → Through p (λ e. Unmoved s e y x) down
exchanged s same x y h = h
exchanged s reversed x y h = h
exchanged s either x y h = (h.1, h.0)

below_refl : (s : Sort) (x : Value s) → Below s x x
below_refl truth x = λ t. t
below_refl number x = ≤ℤ_refl x
below_refl collection x = λ y m. m

pub unmoved_refl : (s : Sort) (d : Direction) (x : Value s) → Unmoved s d x x
unmoved_refl s up x = below_refl s x
unmoved_refl s down x = below_refl s x

-- ---- truths

pub not_below : (a b : Bool) → Below truth a b → Below truth (not b) (not a)
not_below a b h t = not_T a (λ u. T_not b (h u) t)

and_below : (a a' b b' : Bool) → Below truth a a' → Below truth b b' → Below truth (a && b) (a' && b')
and_below a a' b b' h k t = let r = and_yes a b t in yes_and a' b' (h r.0) (k r.1)

or_below : (a a' b b' : Bool) → Below truth a a' → Below truth b b' → Below truth (a || b) (a' || b')
or_below a a' b b' h k t = ⊎_elim (λ u. or_left a' b' (h u)) (λ u. or_right a' b' (k u)) (or_yes a b t)

pub negation_unmoved : (d : Direction) (a a' : Bool) → Unmoved truth (opposite d) a a' → Unmoved truth d (not a) (not a')
negation_unmoved up a a' h = not_below a a' h
negation_unmoved down a a' h = not_below a' a h

connective_below : (o : Connective) (a a' b b' : Bool) → Through (first_truth o) (λ e. Unmoved truth e a a') down → Through (second_truth o) (λ e. Unmoved truth e b b') down → Below truth (connected o a b) (connected o a' b')
unfolding first_truth second_truth connected
connective_below and a a' b b' h k = and_below a a' b b' h k
connective_below or a a' b b' h k = or_below a a' b b' h k
connective_below xor a a' b b' h k =
    or_below (a && not b) (a' && not b') (not a && b) (not a' && b')
    (and_below a a' (not b) (not b') h.1 (not_below b' b k.0))
    (and_below (not a) (not a') b b' (not_below a' a h.0) k.1)
connective_below implies a a' b b' h k = or_below (not a) (not a') b b' (not_below a' a h) k

pub connective_unmoved : (o : Connective) (d : Direction) (a a' b b' : Bool) → Through (first_truth o) (λ e. Unmoved truth e a a') d → Through (second_truth o) (λ e. Unmoved truth e b b') d → Unmoved truth d (connected o a b) (connected o a' b')
connective_unmoved o up a a' b b' h k = connective_below o a' a b' b (exchanged truth (first_truth o) a a' h) (exchanged truth (second_truth o) b b' k)
connective_unmoved o down a a' b b' h k = connective_below o a a' b b' h k

quantifier_below : (q : Quantifier) (p p' : ℕ → Bool) (l l' : List ℕ) → Through (source_of q) (λ e. Unmoved collection e l l') down → ((x : ℕ) → x ∈ l → x ∈ l' → Below truth (p x) (p' x)) → Below truth (quantified q p l) (quantified q p' l')
unfolding source_of quantified
quantifier_below forall p p' l l' s h t = every_of p' l' (λ x m. h x (s x m) m (every_at p t (s x m)))
quantifier_below exists p p' l l' s h t =
    let r = any_cases p l t in
    let m : r.0 ∈ l' = s r.0 r.1 in
    any_of p' m (h r.0 r.1 m r.2)

pub quantifier_unmoved : (q : Quantifier) (d : Direction) (p p' : ℕ → Bool) (l l' : List ℕ) → Through (source_of q) (λ e. Unmoved collection e l l') d → ((x : ℕ) → x ∈ l → x ∈ l' → Unmoved truth d (p x) (p' x)) → Unmoved truth d (quantified q p l) (quantified q p' l')
quantifier_unmoved q up p p' l l' s h = quantifier_below q p' p l' l (exchanged collection (source_of q) l l' s) (λ x m n. h x n m)
quantifier_unmoved q down p p' l l' s h = quantifier_below q p p' l l' s h

-- ---- collections

select_below : (p p' : ℕ → Bool) (l l' : List ℕ) → Below collection l l' → ((x : ℕ) → x ∈ l → x ∈ l' → Below truth (p x) (p' x)) → Below collection (keep p l) (keep p' l')
select_below p p' l l' s h x m = let r = keep_from p l m in keep_in p' (s x r.0) (h x r.0 (s x r.0) r.1)

pub select_unmoved : (d : Direction) (p p' : ℕ → Bool) (l l' : List ℕ) → Unmoved collection d l l' → ((x : ℕ) → x ∈ l → x ∈ l' → Unmoved truth d (p x) (p' x)) → Unmoved collection d (keep p l) (keep p' l')
select_unmoved up p p' l l' s h = select_below p' p l' l s (λ x m n. h x n m)
select_unmoved down p p' l l' s h = select_below p p' l l' s h

-- ---- numbers

pub arithmetic_unmoved : (o : Arithmetic) (d : Direction) (a a' b b' : ℤ) → Unmoved number d a a' → Through (second_term o) (λ e. Unmoved number e b b') d → Unmoved number d (combined o a b) (combined o a' b')
unfolding second_term combined
arithmetic_unmoved add up a a' b b' h k = add_mono h k
arithmetic_unmoved add down a a' b b' h k = add_mono h k
arithmetic_unmoved sub up a a' b b' h k = sub_mono h k
arithmetic_unmoved sub down a a' b b' h k = sub_mono h k

size_below : (l l' : List ℕ) → Ascending ◌<◌ l → Ascending ◌<◌ l' → Below collection l l' → Below number (pos (length l)) (pos (length l'))
size_below l l' a a' s = pos_mono (ascending_shorter ◌<◌ lt_irrefl (λ x y z. lt_trans) l l' a a' s)

pub size_unmoved : (d : Direction) (l l' : List ℕ) → Ascending ◌<◌ l → Ascending ◌<◌ l' → Unmoved collection d l l' → Unmoved number d (pos (length l)) (pos (length l'))
size_unmoved up l l' a a' s = size_below l' l a' a s
size_unmoved down l l' a a' s = size_below l l' a a' s

-- numbers of which none is below 0
abbrev pub NoneBelow : (ℕ → ℤ) → List ℕ → Type 0
NoneBelow f l = (x : ℕ) → x ∈ l → pos 0 ≤ℤ f x

total_least : (f : ℕ → ℤ) (l : List ℕ) → NoneBelow f l → pos 0 ≤ℤ total (map f l)
unfolding total
total_least f [] h = ≤ℤ_refl (pos 0)
total_least f (x ∷ xs) h =
    add_mono {a = pos 0} {b = f x} {c = pos 0} {d = total (map f xs)} (h x (Memᴰ.head refl)) (total_least f xs (λ y m. h y (Memᴰ.tail m)))

-- more of them come to no less
total_below : (f : ℕ → ℤ) (l l' : List ℕ) → Ascending ◌<◌ l → Ascending ◌<◌ l' → Below collection l l' → NoneBelow f l' → total (map f l) ≤ℤ total (map f l')
unfolding total
total_below f [] l' a a' s h = total_least f l' h
total_below f (x ∷ xs) [] a a' s h = absurd (Memᴰ.not-nil (s x (Memᴰ.head refl)))
total_below f (x ∷ xs) (y ∷ ys) a a' s h =
    ⊎_elim
    (λ (e : x ≡ y). add_mono (subst (λ z. f x ≤ℤ f z) e (≤ℤ_refl (f x))) (total_below f xs ys a.1 a'.1 (after_both e) rest))
    (λ (n : x ∈ ys). ≤ℤ-trans (total_below f (x ∷ xs) ys a a'.1 (after_first n) rest) one_more)
    (Memᴰ.cases_cons (s x (Memᴰ.head refl)))
  where
    rest : NoneBelow f ys
    rest z m = h z (Memᴰ.tail m)

    one_more : total (map f ys) ≤ℤ (f y +ℤ total (map f ys))
    one_more =
        subst (λ z. z ≤ℤ (f y +ℤ total (map f ys))) (+ℤ_idl (total (map f ys)))
        (add_mono {a = pos 0} (h y (Memᴰ.head refl)) (≤ℤ_refl (total (map f ys))))

    after_both : x ≡ y → Below collection xs ys
    after_both e z m =
        ⊎_elim (λ (q : z ≡ y). absurd (lt_irrefl x (subst (λ w. x < w) (q ∙ sym e) (a.0 z m)))) (λ n. n) (Memᴰ.cases_cons (s z (Memᴰ.tail m)))

    -- y comes before x, and so before what comes after x
    apart : x ∈ ys → (z : ℕ) → z ∈ x ∷ xs → y < z
    apart n z m = ⊎_elim (λ (q : z ≡ x). subst (λ w. y < w) (sym q) (a'.0 x n)) (λ o. lt_trans (a'.0 x n) (a.0 z o)) (Memᴰ.cases_cons m)

    after_first : x ∈ ys → Below collection (x ∷ xs) ys
    after_first n z m = ⊎_elim (λ (q : z ≡ y). absurd (lt_irrefl y (subst (λ w. y < w) q (apart n z m)))) (λ o. o) (Memᴰ.cases_cons (s z m))

sum_below : (floor : Bool) (f f' : ℕ → ℤ) (l l' : List ℕ) → Ascending ◌<◌ l → Ascending ◌<◌ l' → Through (sum_source floor) (λ e. Unmoved collection e l l') down → (T floor → NoneBelow f' l') → ((x : ℕ) → x ∈ l → x ∈ l' → f x ≡ f' x) → Below number (total (map f l)) (total (map f' l'))
unfolding sum_source
sum_below true f f' l l' a a' s least h =
    subst (λ k. total k ≤ℤ total (map f' l')) (sym (map_congr_left (λ x t. ∥∥₁_elim t (ℤ_set (f x) (f' x)) (λ m. h x m (s x m)))))
    (total_below f' l l' a a' s (least tt))
sum_below false f f' l l' a a' s least h = subst (λ k. total (map f l) ≤ℤ total k) terms (≤ℤ_refl (total (map f l)))
  where
    -- where nothing is known of the cells, no member came and none went
    both : Through either (λ e. Unmoved collection e l l') down
    both = s

    terms : map f l ≡ map f' l'
    terms =
        map_congr_left (λ x t. ∥∥₁_elim t (ℤ_set (f x) (f' x)) (λ m. h x m (both.1 x m)))
        ∙ ap (map f') (ascending_unique ◌<◌ lt_irrefl (λ x y z. lt_trans) l l' a a' both.1 both.0)

pub sum_unmoved : (floor : Bool) (d : Direction) (f f' : ℕ → ℤ) (l l' : List ℕ) → Ascending ◌<◌ l → Ascending ◌<◌ l' → Through (sum_source floor) (λ e. Unmoved collection e l l') d → (T floor → NoneBelow f l) → (T floor → NoneBelow f' l') → ((x : ℕ) → x ∈ l → x ∈ l' → f x ≡ f' x) → Unmoved number d (total (map f l)) (total (map f' l'))
sum_unmoved floor up f f' l l' a a' s least least' h = sum_below floor f' f l' l a' a (exchanged collection (sum_source floor) l l' s) least (λ x m n. sym (h x n m))
sum_unmoved floor down f f' l l' a a' s least least' h = sum_below floor f f' l l' a a' s least' h
