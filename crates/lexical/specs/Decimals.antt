-- Numbers as text: "Decimal, `-` before negatives, no leading zero, no minus zero".
use Rattle.std.specs.Prelude.{ℕ, zero, suc, ◌+◌, ◌-◌, ◌*◌, ◌/◌, ◌%◌, ◌^◌, min, Bool, false, ◌&&◌, ◌||◌, not, cond, List, [], ◌∷◌, ◌++◌, leb, ltb, eqb, length, ℤ, pos, negsuc, Option, Some, None}
use Rattle.std.proofs.Math.Option.{Option as Maybe, none, some}
use Rattle.rows.specs.Rows.{word_of}
use Rattle.lexical.specs.Runs.{run}
use Rattle.lexical.specs.declared.Number.{Number}
use Rattle.lexical.specs.declared.Digits.{Digits}

-- ---- a number's text

-- the digits of q, the most significant first, and none of 0; k is at least as large as q
unfoldable pub leading : ℕ → ℕ → List ℕ
leading zero q = []
leading (suc k) zero = []
leading (suc k) (suc q) = leading k (suc q / 10) ++ ((48 + suc q % 10) ∷ [])

-- "Decimal", "no leading zero": the last digit, after those of the tenth
unfoldable pub digits_of : ℕ → List ℕ
digits_of n = leading (n / 10) (n / 10) ++ ((48 + n % 10) ∷ [])

-- "`-` before negatives"
unfoldable pub decimal_of : ℤ → List ℕ
decimal_of (pos n) = digits_of n
decimal_of (negsuc n) = 45 ∷ digits_of (suc n)

-- ---- the number at the start of a text

-- a digit: byte 48 to 57
abbrev pub is_digit : ℕ → Bool
is_digit b = leb 48 b && leb b 57

-- the longest run of digits
abbrev pub digits_in : List ℕ → List ℕ
digits_in l = run is_digit l

-- what digits say, after those that say v
abbrev pub value_from : ℕ → List ℕ → ℕ
value_from v [] = v
value_from v (d ∷ ds) = value_from (v * 10 + (d - 48)) ds

abbrev pub value_of : List ℕ → ℕ
value_of ds = value_from 0 ds

-- "no leading zero": there is a digit, and no 0 before others
abbrev pub plain : List ℕ → Bool
plain [] = false
plain (d ∷ ds) = eqb (length ds) 0 || not (eqb d 48)

-- a number, and how many bytes it takes
pub record Numeral : Type 0 where
  pub value : ℤ
  pub size : ℕ

-- digits as a number of signed 32 bits: at most 2^31 - 1
unfoldable pub positive : List ℕ → Maybe Numeral
positive ds = cond (plain ds && ltb (value_of ds) (2 ^ 31)) (some (record { value = pos (value_of ds); size = length ds })) none

-- digits after a `-`: "no minus zero", and at most 2^31
unfoldable pub negative : List ℕ → Maybe Numeral
negative ds =
    cond (plain ds && (ltb 0 (value_of ds) && leb (value_of ds) (2 ^ 31)))
    (some (record { value = negsuc (value_of ds - 1); size = suc (length ds) }))
    none

-- "Decimal, `-` before negatives": the number that the longest run of digits says, after a `-` or not
unfoldable pub number_in : List ℕ → Maybe Numeral
number_in [] = none
number_in (b ∷ l) = cond (eqb b 45) (negative (digits_in l)) (positive (digits_in (b ∷ l)))

-- ---- what the reader answers of a number that starts at a place: its word, and the place after it
abbrev pub number_at : ℕ → Maybe Numeral → Option Number
number_at at none = None
number_at at (some n) = Some (record { word = word_of n.value; next = at + n.size })

-- ---- what the reader keeps of digits, however many

-- what says more than 2^31 says 2^31 + 1
abbrev pub too_large : ℕ
too_large = 2147483649

abbrev pub cut_value : List ℕ → ℕ
cut_value ds = min too_large (value_of ds)

-- the same of plain digits at a place, and where they end
abbrev pub plain_at : ℕ → List ℕ → Option Digits
plain_at at ds = cond (plain ds) (Some (record { value = cut_value ds; end = at + length ds })) None
