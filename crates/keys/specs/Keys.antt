-- The rows of a table by their keys, which are the numbers in their first columns, in the order of keys of crate `meaning`.
use Rattle.std.specs.Prelude.{ℕ, ◌≤◌, ◌<◌, not, List, T}
use Rattle.meaning.specs.Lists.{before}
use Rattle.rows.specs.Rows.{word_at, read_rows}

-- the key of a row
abbrev pub key_at : List ℕ → ℕ → ℕ → ℕ → List ℕ
key_at t width columns row = read_rows (word_at t width row) columns

-- "ascending, none twice": of n rows, each comes before those after it
abbrev pub KeysAscend : (ℕ → List ℕ) → ℕ → Type 0
KeysAscend key n = (i j : ℕ) → i < j → j < n → T (before (key i) (key j))

-- where the key k belongs: of n rows, those before row r come before it, and no other does
pub record LowerBound (key : ℕ → List ℕ) (n : ℕ) (k : List ℕ) (r : ℕ) : Type 0 where
  pub within : r ≤ n
  pub below : (i : ℕ) → i < r → T (before (key i) k)
  pub above : (i : ℕ) → r ≤ i → i < n → T (not (before (key i) k))
