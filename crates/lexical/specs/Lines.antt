-- Lines: "one outer bracket a line, each line ended by byte 10".
use Rattle.std.specs.Prelude.{ℕ, Bool, not, List, eqb, length, get_or}
use Rattle.lexical.specs.Runs.{run}

-- "the very part of the text it came from": the bytes before the first byte 10, or all
abbrev pub is_inner : ℕ → Bool
is_inner b = not (eqb b 10)

abbrev pub line_in : List ℕ → List ℕ
line_in l = run is_inner l

-- "ended by byte 10": it stands after the line
abbrev pub line_ended : List ℕ → Bool
line_ended l = eqb (get_or l (length (line_in l)) 0) 10
