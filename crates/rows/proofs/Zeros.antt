-- What `all_zero` says of each word.
use mathlib.Core.Path.{◌≡◌, refl, sym, ap, ◌∙◌}
use mathlib.Core.Bool.{Bool, true, false, ◌&&◌}
use mathlib.Core.List.{List, [], ◌∷◌}
use Prim.Native.Nat.{ℕ, zero, suc, ◌+◌, ◌-◌, ◌*◌, ◌≤◌, ◌<◌}
use native.Mathlib.Numerals.{add-one}
use native.Mathlib.Nat.{add-sub_of_le}
use native.Mathlib.Omega.{arith}
use lib.Dec.{T, eqb, eqb→eq}
use mir.Facts.{yes_and, yes_eqb}
use lib.ListN.{length, get_or, drop}
use lib.Seq.{drop-cons, get_or-drop}
use Rattle.rows.specs.Rows.{all_zero, zero_past}

-- one word at a time
pub zero_step : (t : List ℕ) (i : ℕ) → i < length t → all_zero (drop i t) ≡ eqb (get_or t i 0) 0 && all_zero (drop (i + 1) t)
zero_step t i h = rw (add-one, drop-cons t i 0)

both : (a b : Bool) → T (a && b) → T a × T b
both true b h = (tt, h)
both false b h = absurd h

-- each word is 0, also past the end
pub zero_at : (l : List ℕ) (k : ℕ) → T (all_zero l) → get_or l k 0 ≡ 0
zero_at [] k h = refl
zero_at (w ∷ ws) zero h = eqb→eq w 0 (both (eqb w 0) (all_zero ws) h).0
zero_at (w ∷ ws) (suc k) h = zero_at ws k (both (eqb w 0) (all_zero ws) h).1

-- a word past the used rows
pub zero_past_lem : (t : List ℕ) (width used k : ℕ) → T (zero_past t width used) → used * width ≤ k → get_or t k 0 ≡ 0
zero_past_lem t width used k h l =
    ap (λ (n : ℕ). get_or t n 0) (sym (add-sub_of_le l)) ∙ sym (get_or-drop (used * width) t (k - used * width) 0)
    ∙ zero_at (drop (used * width) t) (k - used * width) h

-- and words that are all 0 make the list zeros
zeros_all : (l : List ℕ) → ((k : ℕ) → get_or l k 0 ≡ 0) → T (all_zero l)
zeros_all [] h = tt
zeros_all (w ∷ ws) h = yes_and (eqb w 0) (all_zero ws) (yes_eqb (h 0)) (zeros_all ws (λ k. h (suc k)))

pub past_zero : (t : List ℕ) (width used : ℕ) → ((k : ℕ) → used * width ≤ k → get_or t k 0 ≡ 0) → T (zero_past t width used)
past_zero t width used h = zeros_all (drop (used * width) t) (λ k. get_or-drop (used * width) t k 0 ∙ h (used * width + k) (omega arith))
