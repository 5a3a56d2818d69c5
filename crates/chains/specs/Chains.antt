-- Chains over a key: the places below n, each with a key, in chains of one key each, and in a chain by their numbers. Place p stands at the
-- slot `at p`. A word of a chain is 1 + a slot, and 0 at its end.
use Rattle.std.specs.Prelude.{ℕ, zero, suc, ◌+◌, ◌-◌, ◌≤◌, ◌<◌, ◌≡◌, cond, List, eqb, get_or, set}

-- 1 + the first of m places from i on whose key is k; 0 where there is none
abbrev pub lead_from : (ℕ → ℕ) → ℕ → ℕ → ℕ → ℕ
lead_from key k i zero = 0
lead_from key k i (suc m) = cond (eqb (key i) k) (suc i) (lead_from key k (suc i) m)

-- the same of the places below n
unfoldable pub lead : (ℕ → ℕ) → ℕ → ℕ → ℕ → ℕ
lead key n k i = lead_from key k i (n - i)

-- 1 + a place as 1 + its slot
abbrev pub slot_word : (ℕ → ℕ) → ℕ → ℕ
slot_word at zero = 0
slot_word at (suc p) = suc (at p)

-- The chains of the places from i on: at each place's slot stands the next place of its key, and at each key the first place that has it.
pub record Chained (at key : ℕ → ℕ) (n : ℕ) (next heads : ℕ → ℕ) (i : ℕ) : Type 0 where
  pub next_is : (p : ℕ) → i ≤ p → p < n → next (at p) ≡ slot_word at (lead key n (key p) (suc p))
  pub head_is : (k : ℕ) → heads k ≡ slot_word at (lead key n k i)

-- the table with a slot at the head of its key's chain: what it holds, and what was the head as the next
abbrev pub pushed : List ℕ → (slot row nexts head : ℕ) → List ℕ
pushed table slot row nexts head = set (set (set table slot row) (nexts + slot) (get_or table head 0)) head (suc slot)
