-- What the check of a rule keeps of its body's rows.
use Rattle.std.specs.Prelude.{ℕ, ◌+◌, ◌*◌, ◌≤◌, ◌≡◌, Bool, ◌||◌, cond, List, [], ◌∷◌, eqb, get_or}
use Rattle.meaning.specs.Limits.{max_forms}
use Rattle.meaning.specs.Forms.{Sort, truth, number, collection}
use Rattle.tables.specs.Codes.{Shape}
use Rattle.tables.specs.Bodies.{BodyRow, body_row, sort_of, RowsRead, ending}

-- the rows of a rule's body
abbrev pub body_of : List ℕ → ℕ → ℕ → BodyRow
body_of bodies rule j = body_row bodies (rule * max_forms + j)

-- a sort as a number
abbrev pub sort_code : Sort → ℕ
sort_code truth = 0
sort_code number = 1
sort_code collection = 2

-- the sort of what is read; 3 where it is no form
unfoldable pub mark : RowsRead → ℕ
mark r = cond r.sound (sort_code (sort_of r.form)) 3

-- the sorts of an operator's first and second part; 3 where it has none. An operator of one part has the second.
abbrev pub first_sort : List Sort → ℕ
first_sort [] = 3
first_sort (s ∷ []) = 3
first_sort (s ∷ t ∷ more) = sort_code s

abbrev pub second_sort : List Sort → ℕ
second_sort [] = 3
second_sort (s ∷ []) = sort_code s
second_sort (s ∷ t ∷ more) = sort_code t

-- what is found serves where a sort is wanted
abbrev pub serves : ℕ → ℕ → Bool
serves want found = eqb want 3 || eqb want found

-- a shape as a row of four words
abbrev pub shape_row : Shape → List ℕ
shape_row s = sort_code s.result ∷ first_sort s.parts ∷ second_sort s.parts ∷ s.fields ∷ []

abbrev pub shape_word : Shape → ℕ → ℕ
shape_word s column = get_or (shape_row s) column 0

-- for each row up to row e, the array has the start of the form that ends before it
pub record Starts (rows : ℕ → BodyRow) (starts : List ℕ) (e : ℕ) : Type 0 where
  pub few : e ≤ max_forms
  pub right : (k : ℕ) → k ≤ e → get_or starts k 0 ≡ (ending rows k).start
