-- A part of a slice that was lent, written or shifted, and put back.
use mathlib.Core.Path.{◌≡◌, sym, ap, ◌∙◌}
use mathlib.Core.List.{List, ◌++◌, append_assoc, append-nil}
use Prim.Native.Nat.{ℕ, ◌+◌, ◌-◌, ◌≤◌}
use native.Mathlib.Nat.{le_refl}
use native.Mathlib.Omega.{arith}
use lib.ListN.{length, take, drop, replicate, length-drop}
use lib.Seq.{paste, length-take-le, take_all, take-take, take-append-le, drop_at, drop-drop, drop-length, length-paste, take-paste, drop-paste}
use borrow.Author.Tests.{le-leb}
use borrow.Rule.Slice.PartMut.{mid_of, put_mid, Post-is}
use Rattle.rows.specs.Rows.{copied}

module _ (t : List ℕ) (a e : ℕ) (h : a ≤ e) where
  -- the words from a up to e
  abbrev part : List ℕ
  part = mid_of a (e - a) t

  pub put_back : (ys : List ℕ) → put_mid a (e - a) t ys ≡ take a t ++ ys ++ drop e t
  put_back ys = rw (Post-is a e t h, append_assoc)

  -- zeros in their place
  pub put_zeros : e ≤ length t → put_mid a (e - a) t (replicate (length part) 0) ≡ take a t ++ replicate (e - a) 0 ++ drop e t
  put_zeros k =
      let n : length part ≡ e - a = length-take-le (e - a) (drop a t) (rw length-drop (omega arith)) in
      put_back (replicate (length part) 0) ∙ rw n

-- zeros in the place of those from a on
pub put_zeros_last : (t : List ℕ) (a : ℕ) → a ≤ length t
    → put_mid a (length t - a) t (replicate (length (mid_of a (length t - a) t)) 0) ≡ take a t ++ replicate (length t - a) 0
put_zeros_last t a h = put_zeros t a (length t) h (le_refl _) ∙ simp (drop-length, append-nil)

-- words moved on or back over others, m of them, and zeros in the n places that they leave
module _ (t : List ℕ) (a n m : ℕ) (h : a + n + m ≤ length t) where
  -- what stands before the words that were moved to place i, and what follows that place
  module _ (i : ℕ) (s : List ℕ) (l : i + m ≤ length t) (k : m ≤ length s) where
    abbrev moved : List ℕ
    moved = paste t i s m

    before : (b : ℕ) → b ≤ i → take b moved ≡ take b t
    before b c =
        ap (take b) (append_assoc (take i t) (take m s) (drop (i + m) t))
        ∙ take-append-le b (take i t) (take m s ++ drop (i + m) t) (rw (length-take-le i t (omega arith)) c)
        ∙ take-take b i t c

    from_there : drop i moved ≡ take m s ++ drop (i + m) t
    from_there =
        ap (drop i) (append_assoc (take i t) (take m s) (drop (i + m) t))
        ∙ drop_at (take i t) (take m s ++ drop (i + m) t) i (length-take-le i t (omega arith))

  pub put_up : put_mid a (a + n - a) (paste t (a + n) (drop a t) m) (replicate (length (mid_of a (a + n - a) (paste t (a + n) (drop a t) m))) 0)
      ≡ take a t ++ replicate n 0 ++ take m (drop a t) ++ drop (a + n + m) t
  put_up =
      let long : m ≤ length (drop a t) = rw length-drop (omega arith) in
      let there = length-paste t (a + n) (drop a t) m h long in
      let zeros : a + n - a ≡ n = omega arith in
      put_zeros (paste t (a + n) (drop a t) m) a (a + n) (omega arith) (rw there (omega arith))
      ∙ rw (before (a + n) (drop a t) h long a (omega arith), from_there (a + n) (drop a t) h long, zeros)
      (sym (append_assoc (take a t ++ replicate n 0) (take m (drop a t)) (drop (a + n + m) t)))

  pub put_down : put_mid (a + m) (a + m + n - (a + m)) (paste t a (drop (a + n) t) m) (replicate (length (mid_of (a + m) (a + m + n - (a + m)) (paste t a (drop (a + n) t) m))) 0)
      ≡ take a t ++ take m (drop (a + n) t) ++ replicate n 0 ++ drop (a + m + n) t
  put_down =
      let long : m ≤ length (drop (a + n) t) = rw length-drop (omega arith) in
      let there = length-paste t a (drop (a + n) t) m (omega arith) long in
      let zeros : a + m + n - (a + m) ≡ n = omega arith in
      let rest : drop (a + m + n) (paste t a (drop (a + n) t) m) ≡ drop (a + m + n) t =
      sym (drop-drop n (a + m) (paste t a (drop (a + n) t) m))
      ∙ ap (drop n) (drop-paste t a (drop (a + n) t) m (omega arith) long) ∙ drop-drop n (a + m) t in
      put_zeros (paste t a (drop (a + n) t) m) (a + m) (a + m + n) (omega arith) (rw there (omega arith))
      ∙ rw (take-paste t a (drop (a + n) t) m (omega arith) long, rest, zeros)

-- words in the place of those from a on
pub put_words : (t words : List ℕ) (a n : ℕ) → length words ≡ n → a + n ≤ length t
    → put_mid a (length t - a) t (copied (mid_of a (length t - a) t) words n) ≡ take a t ++ words ++ drop (a + n) t
unfolding copied
put_words t words a n e h =
    let all : mid_of a (length t - a) t ≡ drop a t = take_all (length t - a) (drop a t) (rw length-drop (omega arith)) in
    let room : n ≤ length (drop a t) = rw length-drop (omega arith) in
    put_back t a (length t) (omega arith) (copied (mid_of a (length t - a) t) words n)
    ∙ rw (all, le-leb _ _ room, le-leb n (length words) (omega arith), take_all n words (omega arith), drop-drop n a t, drop-length, append-nil)
    (simp append_assoc)
