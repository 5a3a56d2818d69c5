-- A table of guesses: rows that may have an id, each at one of two places by the id's last 12 bits.
use Rattle.std.specs.Prelude.{ℕ, zero, suc, ◌+◌, ◌%◌, cond, List, eqb, get_or, set}
use Rattle.tables.specs.Columns.{object_row}

-- the place by the last 12 bits, and the next one
abbrev pub guess_place : ℕ → ℕ → ℕ
guess_place id next = (id % 4096 + next) % 4096

-- a row at the first place of its id, or at the second where the first has another row; row 0 counts as none
unfoldable pub with_guess : List ℕ → ℕ → ℕ → List ℕ
with_guess table id row =
    cond (eqb (get_or table (guess_place id 0) 0) 0) (set table (guess_place id 0) (row % 65536)) (set table (guess_place id 1) (row % 65536))

-- n rows of objects from row i on, one after the other
unfoldable pub with_guesses : List ℕ → List ℕ → ℕ → ℕ → List ℕ
with_guesses table objects i zero = table
with_guesses table objects i (suc n) = with_guesses (with_guess table (object_row objects i).id i) objects (suc i) n
