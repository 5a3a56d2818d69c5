-- Some direction of a set moves a form through a part exactly when some direction of the passed set moves the part.
use Prim.Native.Nat.{ℕ, zero, suc, ◌<◌}
use mathlib.Core.Path.{◌≡◌, refl, sym, ap₂, ◌∙◌}
use mathlib.Core.Bool.{Bool, true, false, ◌&&◌, ◌||◌, or-false, or_comm}
use native.Mathlib.Omega.{arith}
use Rattle.meaning.specs.Reach.{Direction, up, down, Passing, same, reversed, either, through}
use Rattle.directions.specs.Sets.{has, some_of, passed}

or_same : (a : Bool) → (a || a) ≡ a
or_same true = refl
or_same false = refl

module _ (m : Direction → Bool) where
  pub through_some : (p : Passing) (set : ℕ) → set < 4 → some_of set (through ◌||◌ p m) ≡ some_of (passed p set) m
  through_some same zero h = refl
  through_some same (suc zero) h = refl
  through_some same (suc (suc zero)) h = refl
  through_some same (suc (suc (suc zero))) h = refl
  through_some reversed zero h = refl
  through_some reversed (suc zero) h = or-false (m down)
  through_some reversed (suc (suc zero)) h = rw (or-false (m up))
  through_some reversed (suc (suc (suc zero))) h = or_comm (m down) (m up)
  through_some either zero h = refl
  through_some either (suc zero) h = or-false (m up || m down)
  through_some either (suc (suc zero)) h = refl
  through_some either (suc (suc (suc zero))) h = or_same (m up || m down)
  through_some p (suc (suc (suc (suc set)))) h = absurd (omega arith)

-- some direction of a set moves one of two
pub some_or : (m n : Direction → Bool) (set : ℕ) → set < 4 → some_of set (λ d. m d || n d) ≡ (some_of set m || some_of set n)
some_or m n zero h = refl
some_or m n (suc zero) h = or-false (m up || n up) ∙ ap₂ ◌||◌ (sym (or-false (m up))) (sym (or-false (n up)))
some_or m n (suc (suc zero)) h = refl
some_or m n (suc (suc (suc zero))) h = exchange (m up) (n up) (m down) (n down)
  where
    exchange : (a b c d : Bool) → ((a || b) || (c || d)) ≡ ((a || c) || (b || d))
    exchange true b c d = refl
    exchange false true true d = refl
    exchange false true false d = refl
    exchange false false c d = refl
some_or m n (suc (suc (suc (suc set)))) h = absurd (omega arith)

-- the same movement in each direction
pub some_same : (set : ℕ) (m n : Direction → Bool) → ((d : Direction) → m d ≡ n d) → some_of set m ≡ some_of set n
some_same set m n e = λ i. (has set up && e up i) || (has set down && e down i)
