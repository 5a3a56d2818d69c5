-- "Nested brackets .. one space between items": a line as tokens, and the one spelling of each.
use Rattle.std.specs.Prelude.{ℕ, zero, suc, ◌+◌, ◌^◌, Bool, cond, List, [], ◌∷◌, ◌++◌, ltb, eqb, length, drop}
use Rattle.std.proofs.Math.Option.{Option, none, some, bind, map}
use Rattle.rows.specs.Rows.{signed, word_of}
use Rattle.lexical.specs.Decimals.{decimal_of, Numeral, number_in}
use Rattle.text.specs.Names.{name_of, letters_in, place_of}

-- An open bracket with its name; a number, as its word, or `-` alone; a closed bracket.
pub data Token : Type 0 where
  begin : (name : ℕ) → Token
  item : (value : ℕ) → Token
  end : Token

-- "`-` for none": an item that is no number's word
abbrev pub dash : ℕ
dash = 2 ^ 32

abbrev pub is_word : ℕ → Bool
is_word v = ltb v dash

-- ---- the spelling

unfoldable pub spell_item : ℕ → List ℕ
spell_item v = cond (eqb v dash) (45 ∷ []) (decimal_of (signed v))

-- a space before every item and every inner bracket; none before a closed bracket
unfoldable pub spell_token : Token → List ℕ
spell_token (begin k) = 32 ∷ 40 ∷ name_of k
spell_token (item v) = 32 ∷ spell_item v
spell_token end = 41 ∷ []

unfoldable pub spell_tokens : List Token → List ℕ
spell_tokens [] = []
spell_tokens (t ∷ ts) = spell_token t ++ spell_tokens ts

-- ---- the tokens of a text

-- a token, and how many bytes it takes
pub record Lexed : Type 0 where
  pub token : Token
  pub size : ℕ

abbrev pub lexed : Token → ℕ → Lexed
lexed t n = record { token = t; size = n }

-- `-` alone, where no number starts
unfoldable pub dash_in : List ℕ → Option Lexed
dash_in [] = none
dash_in (b ∷ l) = cond (eqb b 45) (some (lexed (item dash) 2)) none

unfoldable pub item_or : Option Numeral → Option Lexed → Option Lexed
item_or (some n) other = some (lexed (item (word_of n.value)) (suc n.size))
item_or none other = other

-- what stands after a space
unfoldable pub after_space : List ℕ → Option Lexed
after_space [] = none
after_space (b ∷ l) =
    cond (eqb b 40)
    (map (λ k. lexed (begin k) (2 + length (letters_in l))) (place_of (letters_in l)))
    (item_or (number_in (b ∷ l)) (dash_in (b ∷ l)))

-- the token at the start of a text
unfoldable pub token_in : List ℕ → Option Lexed
token_in [] = none
token_in (b ∷ l) = cond (eqb b 41) (some (lexed end 1)) (cond (eqb b 32) (after_space l) none)

-- all tokens of a text, to its end: the first, and by `rest` those of what follows it
unfoldable pub first_and : (List ℕ → Option (List Token)) → List ℕ → Option (List Token)
first_and rest [] = some []
first_and rest (b ∷ l) = bind (token_in (b ∷ l)) (λ t. map (λ ts. t.token ∷ ts) (rest (drop t.size (b ∷ l))))

-- the text's length is fuel enough
unfoldable pub tokens_from : ℕ → List ℕ → Option (List Token)
tokens_from zero l = first_and (λ rest. none) l
tokens_from (suc fuel) l = first_and (λ rest. tokens_from fuel rest) l

unfoldable pub tokens_in : List ℕ → Option (List Token)
tokens_in l = tokens_from (length l) l

-- "one outer bracket a line": its name, and what follows in it
pub record Bracket : Type 0 where
  pub name : ℕ
  pub tokens : List Token

unfoldable pub spell_bracket : Bracket → List ℕ
spell_bracket b = 40 ∷ name_of b.name ++ spell_tokens b.tokens

unfoldable pub bracket_in : List ℕ → Option Bracket
bracket_in [] = none
bracket_in (b ∷ l) =
    cond (eqb b 40)
    (bind (place_of (letters_in l)) (λ k. map (λ ts. record { name = k; tokens = ts }) (tokens_in (drop (length (letters_in l)) l))))
    none
