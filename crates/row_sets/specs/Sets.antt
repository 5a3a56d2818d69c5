-- Sets of rows, one for each variable of a rule.
use Rattle.std.specs.Prelude.{ℕ, ◌+◌, ◌*◌, ◌<◌, ◌≡◌, Bool, true, false, cond, List, eqb, length, get_or}

-- The sets, as they are held: self's is an array of marks, those of the variables within stand in one slice.
pub record Sets : Type 0 where
  pub self : List Bool
  pub inner : List Bool

abbrev pub sets_of : (marks sets : List Bool) → Sets
sets_of marks sets = record { self = marks; inner = sets }

-- Document 01, "one mark for each of the 1,024 entity positions": a row is in the set of a variable. Self, variable 0, has the array, which is the rule's
-- marks in the end; variable v within has its rows in the slice, at 1,024 times v.
unfoldable pub in_set : Sets → (v row : ℕ) → Bool
in_set s v row = cond (eqb v 0) (get_or s.self row false) (get_or s.inner (v * 1024 + row) false)

-- room for the sets of 64 variables, 1,024 rows each
pub record Room (s : Sets) : Type 0 where
  pub self : length s.self ≡ 1024
  pub inner : length s.inner ≡ 65536

-- lists of the same lengths
pub record SameLengths (before after : Sets) : Type 0 where
  pub self : length after.self ≡ length before.self
  pub inner : length after.inner ≡ length before.inner

-- sets that only grow
pub record Grown (before after : Sets) : Type 0 where
  pub long : SameLengths before after
  pub kept : (v row : ℕ) → in_set before v row ≡ true → in_set after v row ≡ true

-- those of the first variables do; what later ones hold is free
pub record GrownBelow (depth : ℕ) (before after : Sets) : Type 0 where
  pub long : SameLengths before after
  pub kept : (v row : ℕ) → v < depth → row < 1024 → in_set before v row ≡ true → in_set after v row ≡ true

-- one variable's set is emptied of its rows, and those before it are as they were
pub record Cleared (v rows : ℕ) (before after : Sets) : Type 0 where
  pub long : SameLengths before after
  pub kept : (u row : ℕ) → u < v → row < 1024 → in_set after u row ≡ in_set before u row
  pub empty : (row : ℕ) → row < rows → in_set after v row ≡ false
