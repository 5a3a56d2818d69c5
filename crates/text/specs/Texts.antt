-- A whole text: its lines in order, each ended by byte 10, and the refusals that reading it meets, 1 and 2.
use Rattle.std.specs.Prelude.{ℕ, zero, suc, ◌-◌, min, Bool, false, ◌||◌, cond, List, [], ◌∷◌, ◌++◌, ltb, length, get_or, drop, replicate}
use Rattle.std.proofs.Math.Option.{Option, none, some}
use Rattle.meaning.specs.Limits.{max_forms}
use Rattle.tables.specs.Layouts.{limit_of}
use Rattle.lexical.specs.Lines.{line_in, line_ended}
use Rattle.text.specs.Bodies.{forms_in}
use Rattle.text.specs.Entries.{Entry, row, rule, section_of, count_of, spell_entry, entry_in}

-- "over 65,536 bytes"
abbrev pub max_text : ℕ
max_text = 65536

-- ---- the spelling

-- the lines after those before them
unfoldable pub spell_from : List Entry → List Entry → List ℕ
spell_from before [] = []
spell_from before (e ∷ es) = spell_entry before e ++ 10 ∷ spell_from (before ++ e ∷ []) es

unfoldable pub spelled : List Entry → List ℕ
spelled es = spell_from [] es

-- ---- the reading

-- 2: "a count above its limit or the lent rows", and a body of more than 64 forms; `lent` has the lines of each section for which there are rows
unfoldable pub too_long : Entry → Bool
too_long (row s words) = false
too_long (rule t body) = ltb max_forms (forms_in body)

unfoldable pub no_room : List ℕ → List Entry → Entry → Bool
no_room lent before e =
    ltb (min (limit_of (section_of e)) (get_or lent (section_of e) 0)) (suc (count_of (section_of e) before)) || too_long e

-- the lines that a text says, or a refusal's number and line
pub data Reading : Type 0 where
  taken : List Entry → Reading
  refused : (number line : ℕ) → Reading

-- the line of number n: "1 before 2 in a line"
unfoldable pub entry_then : List ℕ → ℕ → List Entry → (Entry → Reading) → Option Entry → Reading
entry_then lent n before more none = refused 1 n
entry_then lent n before more (some e) = cond (no_room lent before e) (refused 2 n) (more e)

-- "each line ended by byte 10"
unfoldable pub line_then : List ℕ → ℕ → List Entry → (Entry → Reading) → List ℕ → Reading
line_then lent n before more [] = taken before
line_then lent n before more (b ∷ l) =
    cond (line_ended (b ∷ l)) (entry_then lent n before more (entry_in before (line_in (b ∷ l)))) (refused 1 n)

-- what follows the first line
abbrev pub after_line : List ℕ → List ℕ
after_line text = drop (suc (length (line_in text))) text

-- "the earlier line comes first"; the text's length is fuel enough
unfoldable pub read_from : ℕ → List ℕ → ℕ → List Entry → List ℕ → Reading
read_from zero lent n before text = line_then lent n before (λ e. taken before) text
read_from (suc fuel) lent n before text =
    line_then lent n before (λ e. read_from fuel lent (suc n) (before ++ e ∷ []) (after_line text)) text

-- "over 65,536 bytes (first, line 0)"; lines are numbered from 1
unfoldable pub reading : List ℕ → List ℕ → Reading
reading lent text = cond (ltb max_text (length text)) (refused 2 0) (read_from (length text) lent 1 [] text)

-- "After a read all unused rows are 0": a table of so many words, filled from the front
abbrev pub filled : ℕ → List ℕ → List ℕ
filled size words = words ++ replicate (size - length words) 0
