-- The rows of a table as a list of words, and a word as a signed number.
use Rattle.std.specs.Prelude.{ℕ, zero, suc, ◌+◌, ◌-◌, ◌*◌, ◌/◌, ◌%◌, ◌^◌, Bool, true, ◌&&◌, cond, List, [], ◌∷◌, ◌++◌, ltb, leb, eqb, length, get_or, take, drop, replicate, set, ℤ, pos, negsuc}

-- the word in a column of a row; 0 past the end
abbrev pub word_at : List ℕ → ℕ → ℕ → ℕ → ℕ
word_at t width row column = get_or t (row * width + column) 0

-- n rows from row i on, each read by its number
abbrev pub rows_from : {A : Type 0} → (ℕ → A) → ℕ → ℕ → List A
rows_from read i zero = []
rows_from read i (suc n) = read i ∷ rows_from read (suc i) n

abbrev pub read_rows : {A : Type 0} → (ℕ → A) → ℕ → List A
read_rows read n = rows_from read 0 n

-- "not whole rows": the words are no multiple of the width
abbrev pub whole_rows : List ℕ → ℕ → Bool
whole_rows t width = eqb (length t % width) 0

-- how many whole rows a slice has
abbrev pub rows_lent : List ℕ → ℕ → ℕ
rows_lent t width = length t / width

-- ---- rows that are not used

abbrev pub all_zero : List ℕ → Bool
all_zero [] = true
all_zero (w ∷ ws) = eqb w 0 && all_zero ws

-- every word past the used rows is 0
abbrev pub zero_past : List ℕ → ℕ → ℕ → Bool
zero_past t width used = all_zero (drop (used * width) t)

-- the used rows, and zeros past them
unfoldable pub cleared_past : List ℕ → ℕ → ℕ → List ℕ
cleared_past t width used = take (used * width) t ++ replicate (length t - used * width) 0

-- ---- words at the front

-- "words past a list or text keep what they held"
abbrev pub in_front : List ℕ → List ℕ → List ℕ
in_front words before = words ++ drop (length words) before

-- a table of so many words: these, and zeros past them
abbrev pub padded : ℕ → List ℕ → List ℕ
padded long words = words ++ replicate (long - length words) 0

-- ---- words and rows put in their place; where they do not fit, nothing is written

-- dst with the first n words of src in front
unfoldable pub copied : List ℕ → List ℕ → ℕ → List ℕ
copied dst src n = cond (leb n (length dst) && leb n (length src)) (take n src ++ drop n dst) dst

-- t with a row's words in its place
unfoldable pub with_row : List ℕ → ℕ → ℕ → List ℕ → List ℕ
with_row t width row words =
    let a = row * width in
    cond (eqb (length words) width && leb (a + width) (length t)) (take a t ++ words ++ drop (a + width) t) t

-- t with one word of a row changed
unfoldable pub with_word : List ℕ → ℕ → ℕ → ℕ → ℕ → List ℕ
with_word t width row column word = set t (row * width + column) word

-- t with zeros in a row from a column on
unfoldable pub without_columns : List ℕ → ℕ → ℕ → ℕ → List ℕ
without_columns t width row column =
    let a = row * width + column in
    let e = row * width + width in
    cond (leb column width && leb e (length t)) (take a t ++ replicate (width - column) 0 ++ drop e t) t

-- the used rows from row `at` on stand one row on, and row `at` is zeros; for this there is a row past the used ones
unfoldable pub with_gap : List ℕ → ℕ → ℕ → ℕ → List ℕ
with_gap t width at used =
    let a = at * width in
    let e = (used + 1) * width in
    cond (leb at used && leb e (length t)) (take a t ++ replicate width 0 ++ take (used * width - a) (drop a t) ++ drop e t) t

-- row `at` is not among the used rows: those after it stand one row back, and the last used row is zeros
unfoldable pub without_row : List ℕ → ℕ → ℕ → ℕ → List ℕ
without_row t width at used =
    let a = at * width in
    let e = used * width in
    cond (ltb at used && leb e (length t)) (take a t ++ take (e - (a + width)) (drop (a + width) t) ++ replicate width 0 ++ drop e t) t

-- ---- signed words

-- a word's signed value: two's complement
abbrev pub signed : ℕ → ℤ
signed w = cond (ltb w (2 ^ 31)) (pos w) (negsuc (2 ^ 32 - 1 - w))

-- the word of a signed value
abbrev pub word_of : ℤ → ℕ
word_of (pos n) = n
word_of (negsuc n) = 2 ^ 32 - 1 - n
