-- The bytes at the start of a list that pass a test.
use Prim.Native.Nat.{ℕ, ◌+◌, ◌-◌, ◌≤◌, ◌<◌}
use mathlib.Core.Path.{◌≡◌, refl, ap}
use mathlib.Core.Bool.{Bool, true, false, ◌&&◌, cond, false≢true}
use mathlib.Core.List.{List, [], ◌∷◌, ◌++◌}
use native.Mathlib.Nat.{le_refl}
use native.Mathlib.Numerals.{add-one}
use native.Mathlib.Omega.{arith}
use lib.ListN.{length, get_or, take, drop, length-drop}
use lib.Seq.{drop-cons}
use Rattle.meaning.specs.Lists.{every}
use Rattle.lexical.specs.Runs.{run}

-- both halves of a test
pub both : (a b : Bool) → a && b ≡ true → (a ≡ true) × (b ≡ true)
both true b e = (refl, e)
both false b e = absurd (false≢true e)

module _ (p : ℕ → Bool) where
  -- at a place of a text: the byte passes, or it does not, or there is none
  pub run_go : (t : List ℕ) (i : ℕ) → i < length t → p (get_or t i 0) ≡ true → run p (drop i t) ≡ get_or t i 0 ∷ run p (drop (i + 1) t)
  run_go t i h e = rw (add-one, drop-cons t i 0, e)

  -- the run ends within the text, and its first byte is the one at the place
  run_short : (l : List ℕ) → length (run p l) ≤ length l
  run_short [] = le_refl 0
  run_short (b ∷ l) = step (p b) (run_short l)
    where
      step : (q : Bool) → length (run p l) ≤ length l → length (cond q (b ∷ run p l) []) ≤ length (b ∷ l)
      step true e = omega arith
      step false e = omega arith

  pub run_within : (t : List ℕ) (i : ℕ) → length (run p (drop i t)) ≤ length t - i
  run_within t i = rw length-drop at (run_short (drop i t))

  -- the run is the front of the list, all of it passes, and what stands after it does not
  pub take_run : (l : List ℕ) → take (length (run p l)) l ≡ run p l
  take_run [] = refl
  take_run (b ∷ l) = step (p b) (take_run l)
    where
      step : (q : Bool) → take (length (run p l)) l ≡ run p l → take (length (cond q (b ∷ run p l) [])) (b ∷ l) ≡ cond q (b ∷ run p l) []
      step true e = ap (λ (r : List ℕ). b ∷ r) e
      step false e = refl

  pub run_passes : (l : List ℕ) → every p (run p l) ≡ true
  run_passes [] = refl
  run_passes (b ∷ l) = step (p b) refl (run_passes l)
    where
      step : (q : Bool) → p b ≡ q → every p (run p l) ≡ true → every p (cond q (b ∷ run p l) []) ≡ true
      step true e f = rw (e, f)
      step false e f = refl

  pub after_run : (d : ℕ) → p d ≡ false → (l : List ℕ) → p (get_or l (length (run p l)) d) ≡ false
  after_run d h [] = h
  after_run d h (b ∷ l) = step (p b) refl (after_run d h l)
    where
      step : (q : Bool) → p b ≡ q → p (get_or l (length (run p l)) d) ≡ false → p (get_or (b ∷ l) (length (cond q (b ∷ run p l) [])) d) ≡ false
      step true e f = f
      step false e f = e

  -- bytes that pass, before a rest that does not begin with one, are the run
  stops : (rest : List ℕ) (d : ℕ) → p (get_or rest 0 d) ≡ false → run p rest ≡ []
  stops [] d h = refl
  stops (b ∷ l) d h = rw h

  pub run_append : (s rest : List ℕ) (d : ℕ) → every p s ≡ true → p (get_or rest 0 d) ≡ false → run p (s ++ rest) ≡ s
  run_append [] rest d e h = stops rest d h
  run_append (b ∷ s) rest d e h =
      let f = both (p b) (every p s) e in
      rw (f.0, run_append s rest d f.1 h)
