-- A line that is printed: a name, numbers in decimal each after a space, and byte 10.
use Rattle.std.specs.Prelude.{ℕ, List, [], ◌∷◌, ◌++◌}
use Rattle.lexical.specs.Decimals.{digits_of}

unfoldable pub spaced : List ℕ → List ℕ
spaced [] = []
spaced (n ∷ ns) = (32 ∷ digits_of n) ++ spaced ns

unfoldable pub line_of : List ℕ → List ℕ → List ℕ
line_of name ns = name ++ spaced ns ++ 10 ∷ []
