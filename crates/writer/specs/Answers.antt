-- The writer's refusals, its answer, and what it leaves in the lent bytes.
use Rattle.std.specs.Prelude.{ℕ, ◌≡◌, cond, List, ◌++◌, ltb, length, drop}
use Rattle.std.proofs.Math.Option.{Option, none, some}
use Rattle.meaning.specs.Lists.{first_of}
use Rattle.meaning.specs.Events.{Refusal}
use Rattle.tables.specs.Layouts.{Sheet}
use Rattle.tables.specs.Refusals.{OrRefused, unless_met, sheet_refusal}
use Rattle.tables.specs.declared.Counts.{Counts}
use Rattle.text.specs.Texts.{max_text}
use Rattle.text.specs.Sheets.{text_of}

-- "then by 2 at line 0 for a text above 65,536 bytes, then by 14": the text needs more bytes than are lent
unfoldable pub text_refusal : List ℕ → ℕ → Option Refusal
text_refusal text lent =
    cond (ltb max_text (length text)) (some (record { number = 2; place = 0 }))
    (cond (ltb lent (length text)) (some (record { number = 14; place = 0 })) none)

-- "The writer refuses by 2 to 7", then by those of the text
unfoldable pub writer_refusal : Counts → Sheet → ℕ → Option Refusal
writer_refusal n s lent = first_of (sheet_refusal n s) (text_refusal (text_of n s) lent)

-- a refusal's number and place, or how many bytes were written
abbrev pub write_answer : Option Refusal → ℕ → OrRefused ℕ
write_answer = unless_met

-- "words past a list or text keep what they held"; nothing is written on a refusal
unfoldable pub bytes_after : Option Refusal → List ℕ → List ℕ → List ℕ
bytes_after none text out = text ++ drop (length text) out
bytes_after (some r) text out = out

-- a call's answer, and the lent bytes after it
abbrev pub answer_for : Counts → Sheet → List ℕ → OrRefused ℕ
answer_for n s out = write_answer (writer_refusal n s (length out)) (length (text_of n s))

abbrev pub bytes_left : Counts → Sheet → List ℕ → List ℕ
bytes_left n s out = bytes_after (writer_refusal n s (length out)) (text_of n s) out

-- the answer for a text that meets a refusal or none, and the lent bytes after it
pub record Answered (answer : OrRefused ℕ) (after : List ℕ) (refused : Option Refusal) (text before : List ℕ) : Type 0 where
  pub answer_is : answer ≡ write_answer refused (length text)
  pub bytes : after ≡ bytes_after refused text before
