-- Document 01: "Selected objects take one mark for each of the 1,024 entity positions", here of each rule, as bits of words.
use Rattle.std.specs.Prelude.{ℕ, ◌+◌, ◌*◌, ◌/◌, ◌%◌, ◌≤◌, ◌<◌, ◌≡◌, Bool, true, false, List, get_or}
use Rattle.meaning.specs.Lists.{any}
use Rattle.meaning.specs.Limits.{max_objects}
use Rattle.rows.specs.Rows.{read_rows}
use Rattle.bits.specs.Bits.{bit_at}

-- the row is marked for the rule: 32 words a rule, 32 rows a word
unfoldable pub marked : List ℕ → ℕ → ℕ → Bool
marked marks rule row = bit_at (get_or marks (rule * 32 + row / 32) 0) (row % 32)

-- a row is marked for the rule
abbrev pub has_mark : List ℕ → ℕ → Bool
has_mark marks rule = any (marked marks rule) (read_rows (λ row. row) max_objects)

-- the first number from one on that passes a test; the limit where there is none
pub record Next (test : ℕ → Bool) (limit from next : ℕ) : Type 0 where
  pub on : from ≤ next
  pub few : next ≤ limit
  pub passed : (x : ℕ) → from ≤ x → x < next → test x ≡ false
  pub found : next < limit → test next ≡ true
