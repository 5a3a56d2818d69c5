-- Document 01: "The rules a batch touches are one bit each of a 32-bit word, taken lowest first."
use Rattle.std.specs.Prelude.{ℕ, zero, suc, ◌/◌, ◌%◌, ◌^◌, Bool, List, [], ◌∷◌, eqb, get_or}
use Rattle.meaning.specs.Lists.{keep}

-- the bit of that number is set
unfoldable pub bit_at : ℕ → ℕ → Bool
bit_at word i = eqb (word / 2 ^ i % 2) 1

-- so many numbers from i on
abbrev pub numbers_from : ℕ → ℕ → List ℕ
numbers_from i zero = []
numbers_from i (suc n) = i ∷ numbers_from (suc i) n

-- the numbers of the bits that are set, ascending
unfoldable pub bits_in : ℕ → List ℕ
bits_in word = keep (bit_at word) (numbers_from 0 32)

-- the first of them; 32 where there is none
abbrev pub lowest_in : ℕ → ℕ
lowest_in word = get_or (bits_in word) 0 32
