-- Sets of directions as numbers: 0 none, 1 up, 2 down, 3 both. A set goes down a body, so that a form that moves either way is walked once.
use Rattle.std.specs.Prelude.{ℕ, Bool, ◌&&◌, ◌||◌, eqb}
use Rattle.meaning.specs.Reach.{Direction, up, down, Passing, through}
use Rattle.direction_table.specs.Entries.{alone, set_of}

-- the direction of that number is in the set
abbrev pub holds_one : ℕ → ℕ → Bool
holds_one set one = eqb set one || eqb set 3

abbrev pub has : ℕ → Direction → Bool
has set up = holds_one set 1
has set down = holds_one set 2

-- some direction of the set does so
abbrev pub some_of : ℕ → (Direction → Bool) → Bool
some_of set moved = (has set up && moved up) || (has set down && moved down)

-- the directions of a part that, alone, move its form in some direction of the set
abbrev pub passed : Passing → ℕ → ℕ
passed p set = set_of (λ e. some_of set (through ◌||◌ p (alone e)))
