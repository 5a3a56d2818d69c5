-- The marked places below a place, with one place more, and their words at the front of a list.
use Prim.Native.Nat.{ℕ, zero, suc, ◌+◌, ◌*◌, ◌≤◌, ◌<◌}
use mathlib.Core.Path.{◌≡◌, refl, sym, ap, ◌∙◌}
use mathlib.Core.Logic.{⊎_elim}
use mathlib.Core.Bool.{Bool, true, false, cond}
use mathlib.Core.List.{List, [], ◌∷◌, ◌++◌, append-nil, append_assoc, flat_map}
use native.Mathlib.Nat.{le_refl, eq-or-lt_of_le}
use native.Mathlib.Numerals.{add-one}
use native.Mathlib.Omega.{arith}
use lib.ListN.{length, get_or, take, drop, length-append}
use Rattle.type_marks.specs.Marks.{words_at}
use Rattle.mark_words.specs.Places.{marked_below, place_words}
use Rattle.rows.specs.Rows.{in_front}
use Rattle.rows.proofs.Fronts.{front_more}

-- ---- places

module _ (marks : List Bool) where
  pub below_marked : (place : ℕ) → get_or marks place false ≡ true → marked_below marks (place + 1) ≡ marked_below marks place ++ place ∷ []
  unfolding marked_below
  below_marked place e = rw (add-one, e)

  pub below_unmarked : (place : ℕ) → get_or marks place false ≡ false → marked_below marks (place + 1) ≡ marked_below marks place
  unfolding marked_below
  below_unmarked place e = rw (add-one, e) (append-nil (marked_below marks place))

  length_next : (place : ℕ) (m : Bool) → (length (marked_below marks place) ≤ length (marked_below marks place ++ cond m (place ∷ []) [])) × (length (marked_below marks place ++ cond m (place ∷ []) []) ≤ suc (length (marked_below marks place)))
  length_next place true = omega (arith, length-append (marked_below marks place) (place ∷ []))
  length_next place false = omega (arith, length-append (marked_below marks place) [])

  pub below_few : (place : ℕ) → length (marked_below marks place) ≤ place
  unfolding marked_below
  below_few zero = le_refl 0
  below_few (suc place) = omega (arith, below_few place, (length_next place (get_or marks place false)).1)

  pub below_grows : (place end : ℕ) → place ≤ end → length (marked_below marks place) ≤ length (marked_below marks end)
  unfolding marked_below
  below_grows place zero h = let none : place ≡ 0 = omega arith in omega (arith, ap (λ k. length (marked_below marks k)) none)
  below_grows place (suc end) h =
      ⊎_elim (λ (e : place ≡ suc end). omega (arith, ap (λ k. length (marked_below marks k)) e))
      (λ (less : place < suc end). omega (arith, below_grows place end (omega arith), (length_next end (get_or marks end false)).0))
      (eq-or-lt_of_le h)

-- ---- words

pub words_more : (ps qs : List ℕ) → place_words (ps ++ qs) ≡ place_words ps ++ place_words qs
unfolding place_words flat_map
words_more [] qs = refl
words_more (p ∷ ps) qs = ap (λ w. words_at p ++ w) (words_more ps qs) ∙ sym (append_assoc (words_at p) (place_words ps) (place_words qs))

pub words_one : (place : ℕ) → place_words (place ∷ []) ≡ words_at place
unfolding place_words flat_map
words_one place = refl

pub words_length : (ps : List ℕ) → length (place_words ps) ≡ 3 * length ps
unfolding place_words flat_map
words_length [] = refl
words_length (p ∷ ps) = omega (arith, length-append (words_at p) (place_words ps), words_length ps)

-- ---- the words of the places below a place are written

module _ (marks : List Bool) (list : List ℕ) where
  pub record Written (place at : ℕ) (now : List ℕ) : Type 0 where
    pub reached : at ≡ 3 * length (marked_below marks place)
    pub long : length now ≡ length list
    pub words : now ≡ in_front (place_words (marked_below marks place)) list

  pub written_none : Written 0 0 list
  unfolding marked_below place_words flat_map
  written_none = record { reached = refl; long = refl; words = refl }

  -- there is room for one more that is marked
  pub room : {place at : ℕ} {now : List ℕ} (w : Written place at now) (end : ℕ) → place < end → 3 * length (marked_below marks end) ≤ length list → get_or marks place false ≡ true → at + 3 ≤ length now
  room {place} w end h lent e =
      omega (arith, w.reached, w.long, below_grows marks (place + 1) end (omega arith), ap length (below_marked marks place e), length-append (marked_below marks place) (place ∷ []))

  module _ {place at at' : ℕ} {now now' : List ℕ} (w : Written place at now) where
    pub written_marked : get_or marks place false ≡ true → at' ≡ at + 3 → length now' ≡ length now → now' ≡ take at now ++ words_at place ++ drop (at + 3) now → Written (place + 1) at' now'
    written_marked e on same put =
        record {
          reached = omega (arith, ap length (below_marked marks place e), length-append (marked_below marks place) (place ∷ []));
          long = same ∙ w.long;
          words =
              put
              ∙ ap (λ l. take at l ++ words_at place ++ drop (at + 3) l) w.words
              ∙ front_more (place_words (marked_below marks place)) (words_at place) list at 3 (w.reached ∙ sym (words_length (marked_below marks place))) refl
              ∙ ap (λ w. in_front w list) (sym (ap place_words (below_marked marks place e) ∙ words_more (marked_below marks place) (place ∷ []) ∙ ap (λ w. place_words (marked_below marks place) ++ w) (words_one place)));
        }

    pub written_unmarked : get_or marks place false ≡ false → at' ≡ at → now' ≡ now → Written (place + 1) at' now'
    written_unmarked e on same =
        record {
          reached = omega (arith, ap length (below_unmarked marks place e));
          long = ap length same ∙ w.long;
          words = same ∙ w.words ∙ ap (λ ps. in_front (place_words ps) list) (sym (below_unmarked marks place e));
        }
