-- Bytes put into a text.
use Prim.Native.Nat.{ℕ, suc, ◌+◌, ◌≤◌, ◌<◌}
use mathlib.Core.Path.{◌≡◌, refl, sym, ap, ◌∙◌}
use mathlib.Core.Bool.{Bool, true, false, cond}
use mathlib.Core.List.{List, ◌∷◌, ◌++◌, append_assoc}
use native.Mathlib.Numerals.{add-one}
use native.Mathlib.Omega.{arith}
use native.Mathlib.Decide.{dec_le}
use borrow.Author.Tests.{lt-leb, le-leb, leb-true}
use lib.ListN.{length, take, drop, set, length-set, length-append, length-take, length-drop}
use lib.Seq.{drop-cons, get_or-set_same, drop-set-lt, take_at, drop_at, drop-drop}
use Rattle.lexical.specs.Writing.{fits_at, written, place_after}

-- a byte before those from a place on
pub drop_set : (l : List ℕ) (i v : ℕ) → i < length l → drop i (set l i v) ≡ v ∷ drop (i + 1) l
drop_set l i v h =
    drop-cons (set l i v) i 0 (rw length-set h)
    ∙ rw (get_or-set_same l i v 0 h, add-one, drop-set-lt (suc i) l i v (omega arith))

-- the bytes fit, or they do not
module _ (d : List ℕ) (at : ℕ) (s : List ℕ) where
  pub fits_place : at + length s ≤ length d → place_after d at s ≡ at + length s
  unfolding place_after
  fits_place h = rw (le-leb (at + length s) (length d) h)

  pub text_is : at + length s ≤ length d → written d at s ≡ take at d ++ s ++ drop (at + length s) d
  unfolding written
  text_is h = rw (le-leb (at + length s) (length d) h)

  pub over_place : length d < at + length s → place_after d at s ≡ length d + 1
  unfolding place_after
  over_place h = rw (lt-leb (at + length s) (length d) h)

  pub over_text : length d < at + length s → written d at s ≡ d
  unfolding written
  over_text h = rw (lt-leb (at + length s) (length d) h)

  pub length_written : length (written d at s) ≡ length d
  unfolding written
  length_written = go (fits_at d at s) refl
    where
      go : (b : Bool) → fits_at d at s ≡ b → length (cond b (take at d ++ s ++ drop (at + length s) d) d) ≡ length d
      go true e =
          let h : at + length s ≤ length d = leb-true (at + length s) (length d) e in
          simp (length-append, length-take, length-drop) (omega arith)
      go false e = refl

-- ---- bytes after bytes are written as all of them, and where the first do not fit, nothing after them does

module _ (d : List ℕ) (at : ℕ) (s r : List ℕ) where
  all : at + length (s ++ r) ≡ at + length s + length r
  all = rw length-append (omega arith)

  size : length (written d at s) ≡ length d
  size = length_written d at s

  -- the first fit, or not; then the others
  after_fit : at + length s ≤ length d → Dec (at + length s + length r ≤ length d) → place_after (written d at s) (at + length s) r ≡ place_after d at (s ++ r)
  after_fit h (yes k) = fits_place (written d at s) (at + length s) r (rw size k) ∙ sym all ∙ sym (fits_place d at (s ++ r) (rw all k))
  after_fit h (no n) =
      over_place (written d at s) (at + length s) r (rw size (omega arith))
      ∙ rw size (sym (over_place d at (s ++ r) (rw all (omega arith))))

  after_over : length d < at + length s → place_after (written d at s) (length d + 1) r ≡ place_after d at (s ++ r)
  after_over h =
      over_place (written d at s) (length d + 1) r (rw size (omega arith))
      ∙ rw size (sym (over_place d at (s ++ r) (rw all (omega arith))))

  pub place_append : place_after (written d at s) (place_after d at s) r ≡ place_after d at (s ++ r)
  place_append = go (dec_le (at + length s) (length d))
    where
      go : Dec (at + length s ≤ length d) → place_after (written d at s) (place_after d at s) r ≡ place_after d at (s ++ r)
      go (yes h) = rw (fits_place d at s h) (after_fit h (dec_le (at + length s + length r) (length d)))
      go (no n) = rw (over_place d at s (omega arith)) (after_over (omega arith))

  pub written_append : at + length s + length r ≤ length d → written (written d at s) (at + length s) r ≡ written d at (s ++ r)
  written_append h =
      let n = at + length s in
      let x = take at d ++ s ++ drop n d in
      let long : length (take at d ++ s) ≡ n = simp (length-append, length-take) (omega arith) in
      let front : take n x ≡ take at d ++ s = take_at (take at d ++ s) (drop n d) n long in
      let back : drop (n + length r) x ≡ drop (n + length r) d =
      sym (drop-drop (length r) n x) ∙ ap (drop (length r)) (drop_at (take at d ++ s) (drop n d) n long) ∙ drop-drop (length r) n d in
      text_is (written d at s) n r (rw size h)
      ∙ rw (text_is d at s (omega arith), front, back)
      (sym (text_is d at (s ++ r) (rw all h) ∙ rw (all, append_assoc (take at d) s r)))
