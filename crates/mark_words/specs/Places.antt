-- The list read off the marks: the places that are marked, from the lowest, and their words.
use Rattle.std.specs.Prelude.{ℕ, zero, suc, Bool, false, cond, get_or}
use mathlib.Core.List.{List, [], ◌∷◌, ◌++◌, flat_map}
use Rattle.type_marks.specs.Marks.{words_at}

-- the marked places below a place, in their order
unfoldable pub marked_below : List Bool → ℕ → List ℕ
marked_below marks zero = []
marked_below marks (suc place) = marked_below marks place ++ cond (get_or marks place false) (place ∷ []) []

-- three words a place
unfoldable pub place_words : List ℕ → List ℕ
unfolding flat_map
place_words = flat_map words_at
