-- The words of the pairs that are written, and of one more.
use Prim.Native.Nat.{ℕ, ◌+◌, ◌*◌, ◌≤◌, ◌<◌}
use mathlib.Core.Path.{◌≡◌, refl, sym, ap, subst, ◌∙◌}
use mathlib.Core.List.{List, [], ◌∷◌, ◌++◌, append_assoc, append-nil, flat_map}
use native.Mathlib.Omega.{arith}
use lib.ListN.{length, take, drop, length-append}
use Rattle.meaning.specs.Reach.{Pair, pair_key}
use Rattle.rows.specs.Rows.{in_front, with_row}
use Rattle.rows.proofs.Fronts.{row_put_lem, front_more}
use Rattle.pair_list.specs.Pairs.{pair_words}

pub words_more : (ps qs : List Pair) → pair_words (ps ++ qs) ≡ pair_words ps ++ pair_words qs
unfolding pair_words flat_map
words_more [] qs = refl
words_more (p ∷ ps) qs = ap (λ w. pair_key p ++ w) (words_more ps qs)

pub words_length : (ps : List Pair) → length (pair_words ps) ≡ 2 * length ps
unfolding pair_words flat_map
words_length [] = refl
words_length (p ∷ ps) = omega (arith, words_length ps)

one_pair : (p : Pair) → pair_words (p ∷ []) ≡ pair_key p
unfolding pair_words flat_map
one_pair p = refl

-- ---- of all pairs those that come before some are written

module _ (list : List ℕ) (all : List Pair) where
  pub record Written (left : List Pair) (at : ℕ) (now : List ℕ) : Type 0 where
    pub done : List Pair
    pub parts : all ≡ done ++ left
    pub reached : at ≡ length done
    pub long : length now ≡ length list
    pub words : now ≡ in_front (pair_words done) list

  pub written_none : Written all 0 list
  unfolding pair_words flat_map
  written_none = record { done = []; parts = refl; reached = refl; long = refl; words = refl }

  pub written_all : {at : ℕ} {now : List ℕ} → Written [] at now → now ≡ in_front (pair_words all) list
  written_all w = w.words ∙ ap (λ ps. in_front (pair_words ps) list) (sym (w.parts ∙ append-nil w.done))

  module _ {p : Pair} {left : List Pair} {at : ℕ} {now : List ℕ} (w : Written (p ∷ left) at now) where
    -- it is one of them
    pub before_end : at < length all
    before_end = omega (arith, w.reached, ap length w.parts, length-append w.done (p ∷ left))

    pub written_one : 2 * length all ≤ length list → {now' : List ℕ} → length now' ≡ length now → now' ≡ with_row now 2 at (pair_key p) → Written left (at + 1) now'
    written_one lent same put =
        let before : at * 2 ≡ length (pair_words w.done) = omega (arith, w.reached, words_length w.done) in
        record {
          done = w.done ++ p ∷ [];
          parts = w.parts ∙ sym (append_assoc w.done (p ∷ []) left);
          reached = omega (arith, w.reached, length-append w.done (p ∷ []));
          long = same ∙ w.long;
          words =
              put
              ∙ row_put_lem now (pair_key p) 2 at refl (omega (arith, before_end, w.long))
              ∙ ap (λ l. take (at * 2) l ++ pair_key p ++ drop (at * 2 + 2) l) w.words
              ∙ front_more (pair_words w.done) (pair_key p) list (at * 2) 2 before refl
              ∙ ap (λ ws. in_front ws list) (sym (words_more w.done (p ∷ []) ∙ ap (λ ws. pair_words w.done ++ ws) (one_pair p)));
        }

  pub written_on : {left left' : List Pair} {at : ℕ} {now : List ℕ} → left ≡ left' → Written left at now → Written left' at now
  written_on {at = at} {now = now} e w = subst (λ l. Written l at now) e w
