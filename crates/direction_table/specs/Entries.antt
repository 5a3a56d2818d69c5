-- Document 01, "Reach rules", as a table by form, part and direction (Req 04). Each rule is a name of `Reach`, said there; here stands which parts a form has.
use Rattle.std.specs.Prelude.{ℕ, ◌+◌, Bool, true, false, ◌&&◌, ◌||◌, cond, List, [], ◌∷◌, ◌++◌, map, eqb}
use Rattle.std.proofs.Math.Option.{Option, none, some}
use Rattle.meaning.specs.Reach.{Direction, up, down, Passing, through, left_of, right_of, negated, first_truth, second_truth, source_of, at_member, counted, sum_source, first_term, second_term, chosen_from}
use Rattle.tables.specs.Codes.{Operator, comparing, negating, connecting, quantifying, kind_of, literal, cell_of, size_of, sum_of, combining, role_of, all_of, selecting, operators}

-- ---- the parts of a form, by its operator; a form of one part has the second (docs/TABLES.md)

unfoldable pub first_passing : Operator → Option Passing
first_passing (comparing o) = some (left_of o)
first_passing negating = none
first_passing (connecting o) = some (first_truth o)
first_passing (quantifying q) = some (source_of q)
first_passing kind_of = none
first_passing literal = none
first_passing cell_of = none
first_passing size_of = none
first_passing sum_of = none
first_passing (combining o) = some (first_term o)
first_passing role_of = none
first_passing all_of = none
first_passing selecting = some chosen_from

-- A sum is over a floored cell or not (Req 02).
unfoldable pub second_passing : Bool → Operator → Option Passing
second_passing floored (comparing o) = some (right_of o)
second_passing floored negating = some negated
second_passing floored (connecting o) = some (second_truth o)
second_passing floored (quantifying q) = some at_member
second_passing floored kind_of = none
second_passing floored literal = none
second_passing floored cell_of = none
second_passing floored size_of = some counted
second_passing floored sum_of = some (sum_source floored)
second_passing floored (combining o) = some (second_term o)
second_passing floored role_of = none
second_passing floored all_of = none
second_passing floored selecting = some at_member

-- ---- the table

-- a movement in one direction and no other
abbrev pub alone : Direction → Direction → Bool
alone up up = true
alone up down = false
alone down up = false
alone down down = true

-- a set of directions as a number: 0 none, 1 up, 2 down, 3 both
abbrev pub set_of : (Direction → Bool) → ℕ
set_of within = cond (within up) 1 0 + cond (within down) 2 0

-- The directions of a part that, alone, move its form in direction d. Where there is no such part, nothing passes: "unused entries passing nothing".
abbrev pub entry_of : Option Passing → Direction → ℕ
entry_of none d = 0
entry_of (some p) d = set_of (λ e. through ◌||◌ p (alone e) d)

abbrev pub entries_of : Option Passing → List ℕ
entries_of p = entry_of p up ∷ entry_of p down ∷ []

-- the entries of a form
abbrev pub form_row : Bool → Operator → List ℕ
form_row floored o = entries_of (first_passing o) ++ entries_of (second_passing floored o)

-- a form's number: its operator's code, and the next for a sum over a floored cell, which is a form of its own
abbrev pub form_number : ℕ → Bool → ℕ
form_number code floored = cond (floored && eqb code 17) 23 code

-- the forms in the order of their numbers
abbrev pub rule_table : List (List ℕ)
rule_table = map (form_row false) operators ++ form_row true sum_of ∷ []
