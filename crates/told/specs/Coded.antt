-- Answers as numbers, for programs in other languages.
use Rattle.std.specs.Prelude.{ℕ, ◌+◌, ◌*◌, ◌^◌, List, [], ◌∷◌}
use Rattle.std.proofs.Math.Option.{Option, none, some}
use Rattle.meaning.specs.Events.{Refusal}
use Rattle.meaning.specs.Answers as Meaning
use Rattle.meaning.specs.Answers.{accepted, broken_at}
use Rattle.tables.specs.declared.Answer.{Answer}
use Rattle.tables.specs.declared.Answer.TheVariants as Answers
use Rattle.std.specs.Prelude.{Ok, Err}
use Rattle.tables.specs.Refusals.{OrRefused}
use Rattle.tables.specs.declared.Counts.{Counts}
use Rattle.text.specs.Names.{type_name, floor_name, relationship_name, rule_name, object_name, link_name}
use Rattle.text.specs.Entries.{event_section, count_of}
use Rattle.text.specs.Texts.{Reading, taken, refused}

-- a refusal's number times 2^32 plus its place, or 0
unfoldable pub coded : Option Refusal → ℕ
coded none = 0
coded (some r) = r.number * 2 ^ 32 + r.place

-- an answer as three words: 0 accepted; 1, rule, id; 2, number, place
unfoldable pub answer_words : Meaning.Answer → List ℕ
answer_words accepted = 0 ∷ 0 ∷ 0 ∷ []
answer_words (broken_at rule id) = 1 ∷ rule ∷ id ∷ []
answer_words (Meaning.refused number place) = 2 ∷ number ∷ place ∷ []

-- a reading as eight words: 0 and the rows of the seven sections; 1, number, line, and zeros
unfoldable pub read_words : Reading → List ℕ
read_words (taken es) =
    0 ∷ count_of type_name es ∷ count_of floor_name es ∷ count_of relationship_name es ∷ count_of rule_name es ∷ count_of object_name es ∷ count_of link_name es
    ∷ count_of event_section es ∷ []
read_words (refused number line) = 1 ∷ number ∷ line ∷ 0 ∷ 0 ∷ 0 ∷ 0 ∷ 0 ∷ []

-- the answer of an event list or of the writer as three words: 0, how many event types or bytes, 0; or 1, number, place
abbrev pub counted_words : OrRefused ℕ → List ℕ
counted_words (Ok count) = 0 ∷ count ∷ 0 ∷ []
counted_words (Err r) = 1 ∷ r.number ∷ r.place ∷ []

-- ---- the same of what the code answers

abbrev pub verdict_code : OrRefused (Unit {0}) → ℕ
verdict_code (Ok x) = 0
verdict_code (Err r) = r.number * 2 ^ 32 + r.place

abbrev pub said_words : Answer → List ℕ
said_words Answers.Accepted = 0 ∷ 0 ∷ 0 ∷ []
said_words (Answers.Broken rule id) = 1 ∷ rule ∷ id ∷ []
said_words (Answers.Refused number place) = 2 ∷ number ∷ place ∷ []

abbrev pub done_words : OrRefused Counts → List ℕ
done_words (Ok n) = 0 ∷ n.types ∷ n.floors ∷ n.relationships ∷ n.rules ∷ n.objects ∷ n.links ∷ n.events ∷ []
done_words (Err r) = 1 ∷ r.number ∷ r.place ∷ 0 ∷ 0 ∷ 0 ∷ 0 ∷ 0 ∷ []

-- a run of a batch: 0 and the used rows of objects and links after it; or 1, number, place
abbrev pub ran_words : OrRefused (Unit {0}) → (objects links : ℕ) → List ℕ
ran_words (Ok x) objects links = 0 ∷ objects ∷ links ∷ []
ran_words (Err r) objects links = 1 ∷ r.number ∷ r.place ∷ []
