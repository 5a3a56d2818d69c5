-- Document 01, "Book A": what the program prints of an answer and its list of pairs.
use Rattle.std.specs.Prelude.{ℕ, zero, ◌+◌, ◌*◌}
use mathlib.Core.List.{List, [], ◌∷◌, ◌++◌, flat_map}
use Rattle.meaning.specs.Reach.{Pair, pair_of, pair_key}
use Rattle.meaning.specs.Answers as Meaning
use Rattle.meaning.specs.Answers.{accepted, broken_at, refused}
use Rattle.rows.specs.Rows.{word_at, read_rows}
use Rattle.tables.specs.declared.Answer.{Answer}
use Rattle.tables.specs.declared.Answer.TheVariants.{Accepted, Broken, Refused}
use Rattle.printing.specs.Lines.{line_of}

abbrev pub accepted_name : List ℕ
accepted_name = 97 ∷ 110 ∷ 115 ∷ 119 ∷ 101 ∷ 114 ∷ 32 ∷ 97 ∷ 99 ∷ 99 ∷ 101 ∷ 112 ∷ 116 ∷ 101 ∷ 100 ∷ []  -- answer accepted

abbrev pub broken_name : List ℕ
broken_name = 97 ∷ 110 ∷ 115 ∷ 119 ∷ 101 ∷ 114 ∷ 32 ∷ 98 ∷ 114 ∷ 111 ∷ 107 ∷ 101 ∷ 110 ∷ []  -- answer broken

abbrev pub refused_name : List ℕ
refused_name = 97 ∷ 110 ∷ 115 ∷ 119 ∷ 101 ∷ 114 ∷ 32 ∷ 114 ∷ 101 ∷ 102 ∷ 117 ∷ 115 ∷ 101 ∷ 100 ∷ []  -- answer refused

abbrev pub pair_name : List ℕ
pair_name = 112 ∷ 97 ∷ 105 ∷ 114 ∷ []  -- pair

-- "The first line has rule and id; `answer accepted` or `answer refused N P` else"
unfoldable pub answer_line : Meaning.Answer → List ℕ
answer_line accepted = line_of accepted_name []
answer_line (broken_at rule id) = line_of broken_name (rule ∷ id ∷ [])
answer_line (refused number place) = line_of refused_name (number ∷ place ∷ [])

-- "then one line for each pair (rule, id)"
unfoldable pub pair_line : Pair → List ℕ
pair_line p = line_of pair_name (pair_key p)

unfoldable pub pair_lines : List Pair → List ℕ
unfolding flat_map
pair_lines = flat_map pair_line

-- "none after a refusal"
unfoldable pub pairs_shown : Meaning.Answer → List Pair → List Pair
pairs_shown accepted pairs = pairs
pairs_shown (broken_at rule id) pairs = pairs
pairs_shown (refused number place) pairs = []

unfoldable pub printed : Meaning.Answer → List Pair → List ℕ
printed answer pairs = answer_line answer ++ pair_lines (pairs_shown answer pairs)

-- ---- as the code has them

-- what an answer of the code says: it is the answer whose `answer_of` it is
abbrev pub meant : Answer → Meaning.Answer
meant Accepted = accepted
meant (Broken rule id) = broken_at rule id
meant (Refused number place) = refused number place

-- Req 07, "32-bit words, still rule then id": the first pairs of a list
abbrev pub pair_in : List ℕ → ℕ → Pair
pair_in list i = pair_of (word_at list 2 i 0) (word_at list 2 i 1)

abbrev pub pairs_in : List ℕ → ℕ → List Pair
pairs_in list count = read_rows (pair_in list) count

-- how many of them are shown
abbrev pub count_shown : Answer → ℕ → ℕ
count_shown Accepted count = count
count_shown (Broken rule id) count = count
count_shown (Refused number place) count = zero

-- bytes enough for an answer and so many pairs, two numbers of 32 bits in a line
abbrev pub room_for : ℕ → ℕ
room_for count = 37 + 27 * count
