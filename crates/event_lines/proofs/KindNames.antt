-- The names of the kinds of events, each after a space, are the text's: antt computes them all.
use Prim.Native.Nat.{ℕ, zero, suc, ◌+◌, ◌-◌, ◌≤◌, ◌<◌}
use mathlib.Core.Path.{◌≡◌, refl}
use mathlib.Core.List.{List, [], ◌∷◌}
use native.Mathlib.Omega.{arith}
use lib.Dec.{lit≤}
use lib.ListN.{get_or, take, drop}
use Rattle.text.specs.Names.{names, name_of, first_event}

-- where each starts, and their letters
unfoldable pub starts : List ℕ
starts = 0 ∷ 7 ∷ 14 ∷ 18 ∷ 23 ∷ 28 ∷ 36 ∷ 44 ∷ []

unfoldable pub letters : List ℕ
letters =
    32 ∷ 105 ∷ 110 ∷ 115 ∷ 101 ∷ 114 ∷ 116 ∷  -- insert
    32 ∷ 100 ∷ 101 ∷ 108 ∷ 101 ∷ 116 ∷ 101 ∷  -- delete
    32 ∷ 115 ∷ 101 ∷ 116 ∷  -- set
    32 ∷ 106 ∷ 111 ∷ 105 ∷ 110 ∷  -- join
    32 ∷ 112 ∷ 97 ∷ 114 ∷ 116 ∷  -- part
    32 ∷ 115 ∷ 112 ∷ 101 ∷ 99 ∷ 105 ∷ 97 ∷ 108 ∷  -- special
    32 ∷ 103 ∷ 101 ∷ 110 ∷ 101 ∷ 114 ∷ 97 ∷ 108 ∷  -- general
    []

abbrev pub start : ℕ → ℕ
start k = get_or starts k 0

pub record Named (k : ℕ) : Type 0 where
  pub ascends : start k ≤ start (k + 1)
  pub within : start (k + 1) ≤ 44
  pub is : take (start (k + 1) - start k) (drop (start k) letters) ≡ 32 ∷ name_of (first_event + k)

pub named : (k : ℕ) → k < 7 → Named k
unfolding starts letters names
named zero h = record { ascends = lit≤ tt; within = lit≤ tt; is = refl }
named (suc zero) h = record { ascends = lit≤ tt; within = lit≤ tt; is = refl }
named (suc (suc zero)) h = record { ascends = lit≤ tt; within = lit≤ tt; is = refl }
named (suc (suc (suc zero))) h = record { ascends = lit≤ tt; within = lit≤ tt; is = refl }
named (suc (suc (suc (suc zero)))) h = record { ascends = lit≤ tt; within = lit≤ tt; is = refl }
named (suc (suc (suc (suc (suc zero))))) h = record { ascends = lit≤ tt; within = lit≤ tt; is = refl }
named (suc (suc (suc (suc (suc (suc zero)))))) h = record { ascends = lit≤ tt; within = lit≤ tt; is = refl }
named (suc (suc (suc (suc (suc (suc (suc k))))))) h = absurd (omega arith)
