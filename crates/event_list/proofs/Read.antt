-- The list read off the marks of a rule is its event list: both ascend by their words, and have the same ones.
use Prim.Native.Nat.{ℕ, zero, suc, ◌/◌, ◌%◌, ◌<◌}
use mathlib.Core.Path.{◌≡◌, refl, sym, ap, subst, ◌∙◌}
use mathlib.Core.Logic.{⊎_elim}
use mathlib.Core.Bool.{Bool, true, false, cond}
use mathlib.Core.List.Memᴰ
use mathlib.Core.List.{List, [], ◌∷◌, ◌++◌, map, flat_map}
use native.Mathlib.Nat.{eq-or-lt_of_le}
use native.Mathlib.Omega.{arith}
use denote.Floats.{is_true}
use lib.Dec.{T}
use lib.ListN.{length, get_or, length-map}
use Rattle.meaning.specs.Lists.{◌∈◌, before, same_list, Ascending, Before}
use Rattle.meaning.specs.EventList.{EventType, event_type_words}
use Rattle.meaning.proofs.Lists.{any_of, any_cases, ascending_append, ascending_map, ascending_unique}
use Rattle.meaning.proofs.Order.{before_head, before_tail, before_irreflexive, before_transitive, same_list_refl, same_list_eq}
use Rattle.type_marks.specs.Marks.{places, words_at, marked}
use Rattle.event_marks.proofs.Bounds.{placed, place_of, place_found}
use Rattle.mark_words.specs.Places.{marked_below, place_words}
use Rattle.event_list.specs.Answers.{list_words}

-- ---- places and their words

-- the order of places is the order of their words
words_ascend : (p q : ℕ) → p < q → T (before (words_at p) (words_at q))
words_ascend p q h =
    ⊎_elim
    (λ kinds. before_tail (p / 256) (q / 256) (number p ∷ cell p) (number q ∷ cell q) kinds
    (⊎_elim
    (λ numbers. before_tail (number p) (number q) (cell p) (cell q) numbers (before_head (p % 8) (q % 8) [] [] (omega arith)))
    (λ less. before_head (number p) (number q) (cell p) (cell q) less)
    (eq-or-lt_of_le (omega arith))))
    (λ less. before_head (p / 256) (q / 256) (number p ∷ cell p) (number q ∷ cell q) less)
    (eq-or-lt_of_le (omega arith))
  where
    number : ℕ → ℕ
    number place = place / 8 % 32

    cell : ℕ → List ℕ
    cell place = place % 8 ∷ []

-- ---- the marked places

module _ (marks : List Bool) where
  below_in : (end place : ℕ) → place < end → get_or marks place false ≡ true → place ∈ marked_below marks end
  unfolding marked_below
  below_in zero place h e = absurd (omega arith)
  below_in (suc end) place h e =
      ⊎_elim
      (λ (q : place ≡ end). Memᴰ.append_right (marked_below marks end) (subst (λ b. place ∈ cond b (end ∷ []) []) (sym e ∙ ap (λ k. get_or marks k false) q) (Memᴰ.head q)))
      (λ (less : place < end). Memᴰ.append_left (cond (get_or marks end false) (end ∷ []) []) (below_in end place less e))
      (eq-or-lt_of_le (omega arith))

  last_from : (end place : ℕ) (b : Bool) → get_or marks end false ≡ b → place ∈ cond b (end ∷ []) [] → (place ≡ end) × (get_or marks place false ≡ true)
  last_from end place true e m = let q = Memᴰ.eq_of_singleton m in (q, ap (λ k. get_or marks k false) q ∙ e)
  last_from end place false e m = absurd (Memᴰ.not-nil m)

  below_from : (end place : ℕ) → place ∈ marked_below marks end → (place < end) × (get_or marks place false ≡ true)
  unfolding marked_below
  below_from zero place m = absurd (Memᴰ.not-nil m)
  below_from (suc end) place m =
      ⊎_elim
      (λ m. let r = below_from end place m in (omega (arith, r.0), r.1))
      (λ m. let r = last_from end place (get_or marks end false) refl m in (omega (arith, r.0), r.1))
      (Memᴰ.append_cases (marked_below marks end) m)

  below_ascends : (end : ℕ) → Ascending ◌<◌ (marked_below marks end)
  unfolding marked_below
  below_ascends zero = tt
  below_ascends (suc end) =
      ascending_append ◌<◌ (marked_below marks end) (cond (get_or marks end false) (end ∷ []) []) (below_ascends end) (one (get_or marks end false))
      (λ p q m n. omega (arith, (below_from end p m).0, (last_from end q (get_or marks end false) refl n).0))
    where
      one : (b : Bool) → Ascending ◌<◌ (cond b (end ∷ []) [])
      one true = ((λ y m. absurd (Memᴰ.not-nil m)), tt)
      one false = tt

-- ---- the list

words_of : {A : Type 0} (f : A → List ℕ) (l : List A) → flat_map f l ≡ flat_map (λ w. w) (map f l)
unfolding flat_map
words_of f [] = refl
words_of f (x ∷ l) = ap (λ w. f x ++ w) (words_of f l)

module _ (marks : List Bool) (es : List EventType) (ascends : Ascending (Before event_type_words) es) (in_place : (e : EventType) → e ∈ es → T (placed e))
    (each : (place : ℕ) → place < places → get_or marks place false ≡ marked es place) where
  abbrev read : List ℕ
  read = marked_below marks places

  listed_in : (w : List ℕ) → w ∈ map event_type_words es → w ∈ map words_at read
  listed_in w m =
      let (e, there, is) = Memᴰ.of_map event_type_words es m in
      let (within, words) = place_found e (in_place e there) in
      let place = place_of (event_type_words e) in
      let mark = any_of (λ e. same_list (event_type_words e) (words_at place)) there (subst (λ k. T (same_list (event_type_words e) k)) words (same_list_refl (event_type_words e))) in
      Memᴰ.cast (sym is ∙ words) (Memᴰ.map words_at (below_in marks places place within (each place within ∙ is_true _ mark)))

  listed_from : (w : List ℕ) → w ∈ map words_at read → w ∈ map event_type_words es
  listed_from w m =
      let (place, there, is) = Memᴰ.of_map words_at read m in
      let (within, mark) = below_from marks places place there in
      let (e, listed, same) = any_cases (λ e. same_list (event_type_words e) (words_at place)) es (subst T (sym mark ∙ each place within) tt) in
      Memᴰ.cast (sym is ∙ sym (same_list_eq (event_type_words e) (words_at place) same)) (Memᴰ.map event_type_words listed)

  same_keys : map event_type_words es ≡ map words_at read
  same_keys =
      ascending_unique (λ x y. T (before x y)) before_irreflexive before_transitive (map event_type_words es) (map words_at read)
      (ascending_map event_type_words (Before event_type_words) (λ x y. T (before x y)) es (λ x y m n h. h) ascends)
      (ascending_map words_at ◌<◌ (λ x y. T (before x y)) read (λ p q m n h. words_ascend p q h) (below_ascends marks places))
      listed_in
      listed_from

  -- as many, and the same words
  pub read_length : length read ≡ length es
  read_length = sym (length-map read words_at) ∙ ap length (sym same_keys) ∙ length-map es event_type_words

  pub read_words_lem : place_words read ≡ list_words es
  unfolding place_words list_words
  read_words_lem = words_of words_at read ∙ ap (flat_map (λ w. w)) (sym same_keys) ∙ sym (words_of event_type_words es)
