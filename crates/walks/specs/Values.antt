-- The meaning of the form that ends before row e of a rule's body, at the ids of the variables' rows.
use Rattle.std.specs.Prelude.{ℕ, ◌+◌, Bool, cond, List, eqb, ltb, ℤ, pos}
use Rattle.meaning.specs.Limits.{cell_count}
use Rattle.meaning.specs.Meaning.{meaning}
use Rattle.rows.specs.Rows.{word_at, signed}
use Rattle.tables.specs.Bodies.{as_truth, as_number, as_collection}
use Rattle.walks.specs.Site.{Site, types_at, register_at, form_at, ids_of}

unfoldable pub truth_of : Site → ℕ → List ℕ → ℕ → Bool
truth_of w e vars depth = meaning (types_at w) (register_at w) (as_truth (form_at w e)) (ids_of w depth vars)

unfoldable pub number_of : Site → ℕ → List ℕ → ℕ → ℤ
number_of w e vars depth = meaning (types_at w) (register_at w) (as_number (form_at w e)) (ids_of w depth vars)

unfoldable pub members_of : Site → ℕ → List ℕ → ℕ → List ℕ
members_of w e vars depth = meaning (types_at w) (register_at w) (as_collection (form_at w e)) (ids_of w depth vars)

-- the value of a cell of the object in a row; 0 where there is no such cell
unfoldable pub cell_in : List ℕ → ℕ → ℕ → ℤ
cell_in objects row cell = cond (ltb cell cell_count) (signed (word_at objects 10 row (2 + cell))) (pos 0)

-- what the member in a row adds to a size (code 16) or to a sum of cells
unfoldable pub weight_of : ℕ → List ℕ → ℕ → ℕ → ℤ
weight_of code objects cell row = cond (eqb code 16) (pos 1) (cell_in objects row cell)
