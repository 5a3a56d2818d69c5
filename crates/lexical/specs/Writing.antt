-- Bytes put into a lent text; where they do not fit, nothing is written, and the place answered is past the end.
use Rattle.std.specs.Prelude.{ℕ, ◌+◌, Bool, cond, List, ◌++◌, leb, length, take, drop}

abbrev pub fits_at : List ℕ → ℕ → List ℕ → Bool
fits_at out at bytes = leb (at + length bytes) (length out)

-- the text with the bytes at a place
unfoldable pub written : List ℕ → ℕ → List ℕ → List ℕ
written out at bytes = cond (fits_at out at bytes) (take at out ++ bytes ++ drop (at + length bytes) out) out

-- the place after them; one past the text's length says that they did not fit, and nothing fits there
unfoldable pub place_after : List ℕ → ℕ → List ℕ → ℕ
place_after out at bytes = cond (fits_at out at bytes) (at + length bytes) (length out + 1)
