-- The directions of a part by the directions of its form, as the table of directions gives them.
use Rattle.std.specs.Prelude.{ℕ, Bool, List, [], ◌∷◌, ◌++◌}
use Rattle.std.proofs.Math.Option.{Option, none, some}
use Rattle.meaning.specs.Reach.{Passing}
use Rattle.tables.specs.Codes.{Operator}
use Rattle.direction_table.specs.Entries.{first_passing, second_passing}
use Rattle.directions.specs.Sets.{passed}

-- of a part, by the set of its form's, 0 to 3; where there is no such part, nothing passes
abbrev pub passed_by : Option Passing → ℕ → ℕ
passed_by none set = 0
passed_by (some p) set = passed p set

abbrev pub sets_of : Option Passing → List ℕ
sets_of p = passed_by p 0 ∷ passed_by p 1 ∷ passed_by p 2 ∷ passed_by p 3 ∷ []

-- an operator's, of a sum by whether its cell is floored: for its first part and then its second
abbrev pub pass_row : Bool → Operator → List ℕ
pass_row floored o = sets_of (first_passing o) ++ sets_of (second_passing floored o)
