-- What the code gives for a verdict, an answer or a reading is what its definition says.
use Prim.Native.Nat.{ℕ}
use mathlib.Core.Path.{◌≡◌, refl}
use mathlib.Core.List.{List, [], ◌∷◌, ◌++◌}
use mathlib.Core.Option.{Option, none, some}
use lib.ListN.{get_or}
use Rattle.meaning.specs.Events.{Refusal}
use Rattle.meaning.specs.Answers.{Answer, accepted, broken_at, refused}
use Rattle.text.specs.Texts as Texts
use Rattle.reader.specs.Reads.{read_answer}
use Rattle.tables.specs.declared.Answer as Code
use Rattle.tables.specs.declared.Answer.TheVariants as Answers
use Rattle.tables.specs.Refusals.{verdict_of}
use Rattle.tables.specs.Answers.{answer_of}
use Rattle.told.specs.Coded.{coded, answer_words, read_words, verdict_code, said_words, done_words}

pub verdict_coded : (o : Option Refusal) → verdict_code (verdict_of o) ≡ coded o
unfolding coded
verdict_coded none = refl
verdict_coded (some r) = refl

pub answer_said : (a : Answer) → said_words (answer_of a) ≡ answer_words a
unfolding answer_words
answer_said accepted = refl
answer_said (broken_at rule id) = refl
answer_said (refused number place) = refl

pub reading_told : (r : Texts.Reading) → done_words (read_answer r) ≡ read_words r
unfolding read_words
reading_told (Texts.taken es) = refl
reading_told (Texts.refused number line) = refl

-- an answer's three words, and numbers after them
pub said_first :
    (a : Code.Answer) (rest : List ℕ) → get_or (said_words a) 0 0 ∷ get_or (said_words a) 1 0 ∷ get_or (said_words a) 2 0 ∷ rest ≡ said_words a ++ rest
said_first Answers.Accepted rest = refl
said_first (Answers.Broken rule id) rest = refl
said_first (Answers.Refused number place) rest = refl
