-- The comparisons by their codes in body rows: le, lt, eq, ne, ge, gt from 0 (docs/TABLES.md).
use Rattle.std.specs.Prelude.{ℕ, [], ◌∷◌, get_or}
use Rattle.meaning.specs.Forms.{Comparison, le, lt, eq, ne, ge, gt}

unfoldable pub comparison_of : ℕ → Comparison
comparison_of code = get_or (le ∷ lt ∷ eq ∷ ne ∷ ge ∷ []) code gt
