-- The operators of body rows: their codes, their names in the text, and their shapes. An operator's code is its place in `operators`.
use Rattle.std.specs.Prelude.{ℕ, suc, cond, List, [], ◌∷◌, map}
use Rattle.std.proofs.Math.Option.{Option}
use Rattle.std.proofs.Math.ListN.{get_elem?}
use Rattle.meaning.specs.Lists.{same_list}
use Rattle.meaning.specs.Forms.{Sort, truth, number, collection, Comparison, le, lt, eq, ne, ge, gt, Connective, and, or, xor, implies, Quantifier, forall, exists, Arithmetic, add, sub}

pub data Operator : Type 0 where
  comparing : Comparison → Operator
  negating : Operator
  connecting : Connective → Operator
  quantifying : Quantifier → Operator
  kind_of : Operator
  literal : Operator
  cell_of : Operator
  size_of : Operator
  sum_of : Operator
  combining : Arithmetic → Operator
  role_of : Operator
  all_of : Operator
  selecting : Operator

unfoldable pub operators : List Operator
operators =
    comparing le ∷ comparing lt ∷ comparing eq ∷ comparing ne ∷ comparing ge ∷ comparing gt
    ∷ negating ∷ connecting and ∷ connecting or ∷ connecting xor ∷ connecting implies
    ∷ quantifying forall ∷ quantifying exists ∷ kind_of
    ∷ literal ∷ cell_of ∷ size_of ∷ sum_of ∷ combining add ∷ combining sub
    ∷ role_of ∷ all_of ∷ selecting ∷ []

unfoldable pub operator_of : ℕ → Option Operator
operator_of code = get_elem? operators code

-- its name in the text, as bytes
unfoldable pub operator_name : Operator → List ℕ
operator_name (comparing le) = 108 ∷ 101 ∷ []  -- le
operator_name (comparing lt) = 108 ∷ 116 ∷ []  -- lt
operator_name (comparing eq) = 101 ∷ 113 ∷ []  -- eq
operator_name (comparing ne) = 110 ∷ 101 ∷ []  -- ne
operator_name (comparing ge) = 103 ∷ 101 ∷ []  -- ge
operator_name (comparing gt) = 103 ∷ 116 ∷ []  -- gt
operator_name negating = 110 ∷ 111 ∷ 116 ∷ []  -- not
operator_name (connecting and) = 97 ∷ 110 ∷ 100 ∷ []  -- and
operator_name (connecting or) = 111 ∷ 114 ∷ []  -- or
operator_name (connecting xor) = 120 ∷ 111 ∷ 114 ∷ []  -- xor
operator_name (connecting implies) = 105 ∷ 109 ∷ 112 ∷ 108 ∷ 105 ∷ 101 ∷ 115 ∷ []  -- implies
operator_name (quantifying forall) = 102 ∷ 111 ∷ 114 ∷ 97 ∷ 108 ∷ 108 ∷ []  -- forall
operator_name (quantifying exists) = 101 ∷ 120 ∷ 105 ∷ 115 ∷ 116 ∷ 115 ∷ []  -- exists
operator_name kind_of = 107 ∷ 105 ∷ 110 ∷ 100 ∷ []  -- kind
operator_name literal = 110 ∷ 117 ∷ 109 ∷ []  -- num
operator_name cell_of = 99 ∷ 101 ∷ 108 ∷ 108 ∷ []  -- cell
operator_name size_of = 115 ∷ 105 ∷ 122 ∷ 101 ∷ []  -- size
operator_name sum_of = 115 ∷ 117 ∷ 109 ∷ []  -- sum
operator_name (combining add) = 97 ∷ 100 ∷ 100 ∷ []  -- add
operator_name (combining sub) = 115 ∷ 117 ∷ 98 ∷ []  -- sub
operator_name role_of = 114 ∷ 111 ∷ 108 ∷ 101 ∷ []  -- role
operator_name all_of = 97 ∷ 108 ∷ 108 ∷ []  -- all
operator_name selecting = 115 ∷ 101 ∷ 108 ∷ 101 ∷ 99 ∷ 116 ∷ []  -- select

-- the place of the first name in a list that is this one
abbrev pub place_in : List ℕ → List (List ℕ) → ℕ
place_in name [] = 0
place_in name (n ∷ ns) = cond (same_list name n) 0 (suc (place_in name ns))

unfoldable pub code_of : Operator → ℕ
unfolding operators operator_name
code_of o = place_in (operator_name o) (map operator_name operators)

-- What an operator makes, of parts of which sorts, and how many of a row's three fields it uses.
pub record Shape : Type 0 where
  pub result : Sort
  pub parts : List Sort
  pub fields : ℕ

abbrev shape : Sort → List Sort → ℕ → Shape
shape result parts fields = record { result = result; parts = parts; fields = fields }

unfoldable pub shape_of : Operator → Shape
shape_of (comparing o) = shape truth (number ∷ number ∷ []) 0
shape_of negating = shape truth (truth ∷ []) 0
shape_of (connecting o) = shape truth (truth ∷ truth ∷ []) 0
shape_of (quantifying q) = shape truth (collection ∷ truth ∷ []) 0
shape_of kind_of = shape truth [] 2
shape_of literal = shape number [] 1
shape_of cell_of = shape number [] 2
shape_of size_of = shape number (collection ∷ []) 0
shape_of sum_of = shape number (collection ∷ []) 1
shape_of (combining o) = shape number (number ∷ number ∷ []) 0
shape_of role_of = shape collection [] 2
shape_of all_of = shape collection [] 1
shape_of selecting = shape collection (collection ∷ truth ∷ []) 0
