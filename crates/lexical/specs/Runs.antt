-- The bytes at the start that pass a test.
use Rattle.std.specs.Prelude.{ℕ, Bool, cond, List, [], ◌∷◌}

-- those before the first byte that does not pass, or all
abbrev pub run : (ℕ → Bool) → List ℕ → List ℕ
run p [] = []
run p (b ∷ l) = cond (p b) (b ∷ run p l) []
