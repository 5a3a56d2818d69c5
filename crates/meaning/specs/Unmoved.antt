-- What the reach rules promise of a value: where they do not let a form move in a direction, its value has not moved so.
use Rattle.std.specs.Prelude.{ℕ, T, ◌≤ℤ◌}
use Rattle.meaning.specs.Lists.{◌∈◌}
use Rattle.meaning.specs.Forms.{Sort, truth, number, collection}
use Rattle.meaning.specs.Meaning.{Value}
use Rattle.meaning.specs.Reach.{Direction, up, down, opposite, Passing, same, reversed, either}

-- One order for each sort: false ≤ true, the order of ℤ, inclusion.
abbrev pub Below : (s : Sort) → Value s → Value s → Type 0
Below truth a b = T a → T b
Below number a b = a ≤ℤ b
Below collection a b = (x : ℕ) → x ∈ a → x ∈ b

-- The value before and the value after, where the form does not move in direction d: what is not moved down has not fallen,
-- what is not moved up has not risen.
abbrev pub Unmoved : (s : Sort) → Direction → Value s → Value s → Type 0
Unmoved s down before after = Below s before after
Unmoved s up before after = Below s after before

-- What is known of a part through which nothing moves the form in direction d.
abbrev pub Through : Passing → (Direction → Type 0) → Direction → Type 0
Through same P d = P d
Through reversed P d = P (opposite d)
Through either P d = P up × P down
