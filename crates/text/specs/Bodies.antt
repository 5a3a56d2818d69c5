-- "A body form's name and its number of parts belong to the text; sorts are met at 4": forms as the text has them, their tokens and
-- their rows.
use Rattle.std.specs.Prelude.{ℕ, zero, suc, ◌+◌, ◌-◌, Bool, ◌&&◌, cond, List, [], ◌∷◌, ◌++◌, map, leb, eqb, length, replicate}
use Rattle.std.proofs.Math.Option
use Rattle.std.proofs.Math.Option.{Option, none, some, bind}
use Rattle.meaning.specs.Lists.{every, holds}
use Rattle.meaning.specs.Forms.{Sort, Form, compare, negate, connect, quantify, kind, num, cell, size, sum, combine, role, all, select}
use Rattle.rows.specs.Rows.{word_of}
use Rattle.tables.specs.Codes.{Shape, operator_of, shape_of, code_of, comparing, negating, connecting, quantifying, kind_of, literal, cell_of, size_of, sum_of, combining, role_of, all_of, selecting}
use Rattle.text.specs.Names.{first_operator}
use Rattle.text.specs.Tokens.{Token, begin, item, end, is_word}

-- A form by its operator's code, with its parts and its fields' words.
pub data Written : Type 0 where
  leaf : (code : ℕ) → List ℕ → Written
  over : (code : ℕ) → Written → List ℕ → Written
  both : (code : ℕ) → Written → Written → List ℕ → Written

-- how many parts and fields the form of a code has
pub record Need : Type 0 where
  pub parts : ℕ
  pub fields : ℕ

abbrev pub need_of : Shape → Need
need_of s = record { parts = length s.parts; fields = s.fields }

unfoldable pub need : ℕ → Option Need
need code = Option.map (λ o. need_of (shape_of o)) (operator_of code)

-- the code is an operator's, of so many parts and fields, each a word
unfoldable pub meets : ℕ → ℕ → List ℕ → Bool
meets code parts fields = holds (λ n. eqb n.parts parts && eqb n.fields (length fields)) (need code) && every is_word fields

unfoldable pub well_written : Written → Bool
well_written (leaf k fs) = meets k 0 fs
well_written (over k a fs) = meets k 1 fs && well_written a
well_written (both k a b fs) = meets k 2 fs && (well_written a && well_written b)

unfoldable pub forms_in : Written → ℕ
forms_in (leaf k fs) = 1
forms_in (over k a fs) = suc (forms_in a)
forms_in (both k a b fs) = suc (forms_in a + forms_in b)

-- ---- as rows: each after its parts, the first part's before the second's

-- words, and zeros up to a width
abbrev pub padded : ℕ → List ℕ → List ℕ
padded width l = l ++ replicate (width - length l) 0

unfoldable pub row_of : ℕ → List ℕ → List ℕ
row_of code fields = code ∷ padded 3 fields

unfoldable pub rows_of : Written → List ℕ
rows_of (leaf k fs) = row_of k fs
rows_of (over k a fs) = rows_of a ++ row_of k fs
rows_of (both k a b fs) = rows_of a ++ rows_of b ++ row_of k fs

-- ---- as tokens: "(name part .. field ..)"

abbrev pub closing : List ℕ → List Token
closing fields = map item fields ++ end ∷ []

unfoldable pub tokens_of : Written → List Token
tokens_of (leaf k fs) = begin (first_operator + k) ∷ closing fs
tokens_of (over k a fs) = begin (first_operator + k) ∷ tokens_of a ++ closing fs
tokens_of (both k a b fs) = begin (first_operator + k) ∷ tokens_of a ++ tokens_of b ++ closing fs

-- ---- the form at the start of tokens

-- fields up to the closed bracket, and the tokens after it
pub record Closed : Type 0 where
  pub fields : List ℕ
  pub rest : List Token

-- precisely n fields, each a number, and a closed bracket
unfoldable pub close_in : ℕ → List Token → Option Closed
close_in zero [] = none
close_in zero (begin k ∷ ts) = none
close_in zero (item v ∷ ts) = none
close_in zero (end ∷ ts) = some (record { fields = []; rest = ts })
close_in (suc n) [] = none
close_in (suc n) (begin k ∷ ts) = none
close_in (suc n) (end ∷ ts) = none
close_in (suc n) (item v ∷ ts) =
    cond (is_word v) (Option.map (λ c. record { fields = v ∷ c.fields; rest = c.rest }) (close_in n ts)) none

pub record Formed : Type 0 where
  pub form : Written
  pub rest : List Token

-- a form with its fields, when its parts have been read
unfoldable pub formed_by : (List ℕ → Written) → ℕ → List Token → Option Formed
formed_by form n ts = Option.map (λ c. record { form = form c.fields; rest = c.rest }) (close_in n ts)

-- the parts, each by the same reading, and then the fields
unfoldable pub parts_in : (List Token → Option Formed) → ℕ → ℕ → ℕ → List Token → Option Formed
parts_in part code zero fields ts = formed_by (leaf code) fields ts
parts_in part code (suc zero) fields ts = bind (part ts) (λ a. formed_by (over code a.form) fields a.rest)
parts_in part code (suc (suc more)) fields ts =
    bind (part ts) (λ a. bind (part a.rest) (λ b. formed_by (both code a.form b.form) fields b.rest))

-- an operator's name is at or above the first
unfoldable pub need_named : ℕ → Option Need
need_named name = cond (leb first_operator name) (need (name - first_operator)) none

-- a form starts with its bracket and its operator's name
unfoldable pub opened_in : (List Token → Option Formed) → List Token → Option Formed
opened_in part [] = none
opened_in part (item v ∷ ts) = none
opened_in part (end ∷ ts) = none
opened_in part (begin name ∷ ts) = bind (need_named name) (λ n. parts_in part (name - first_operator) n.parts n.fields ts)

-- the number of tokens is fuel enough
unfoldable pub form_in : ℕ → List Token → Option Formed
form_in zero ts = none
form_in (suc fuel) ts = opened_in (λ rest. form_in fuel rest) ts

-- a form of a body, as the text has it
unfoldable pub written_of : {s : Sort} → Form s → Written
written_of (compare o a b) = both (code_of (comparing o)) (written_of a) (written_of b) []
written_of (negate a) = over (code_of negating) (written_of a) []
written_of (connect o a b) = both (code_of (connecting o)) (written_of a) (written_of b) []
written_of (quantify q c b) = both (code_of (quantifying q)) (written_of c) (written_of b) []
written_of (kind v t) = leaf (code_of kind_of) (v ∷ t ∷ [])
written_of (num n) = leaf (code_of literal) (word_of n ∷ [])
written_of (cell v k) = leaf (code_of cell_of) (v ∷ k ∷ [])
written_of (size c) = over (code_of size_of) (written_of c) []
written_of (sum c k) = over (code_of sum_of) (written_of c) (k ∷ [])
written_of (combine o a b) = both (code_of (combining o)) (written_of a) (written_of b) []
written_of (role v r) = leaf (code_of role_of) (v ∷ r ∷ [])
written_of (all t) = leaf (code_of all_of) (t ∷ [])
written_of (select c b) = both (code_of selecting) (written_of c) (written_of b) []
