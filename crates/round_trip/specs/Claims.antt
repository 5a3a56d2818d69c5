-- Demand 2 of the text, end to end: what the writer does not refuse is read back, and no other text is read so. Both claims are about the
-- definitions that the contracts of `writer::write` and `reader::read` cite; `proofs/Theorems` has the proofs.
use Rattle.std.specs.Prelude.{ℕ, ◌^◌, ◌<◌, ◌≡◌, false, List, [], length, get_or, take}
use Rattle.std.proofs.Math.Option.{none}
use Rattle.meaning.specs.Register.{Register}
use Rattle.meaning.specs.Forms.{Book}
use Rattle.meaning.specs.Events.{Event}
use Rattle.tables.specs.Layouts.{Sheet, layouts}
use Rattle.tables.specs.Columns.{book_of, register_in, batch_in}
use Rattle.tables.specs.Refusals.{any_overfull, not_whole}
use Rattle.tables.specs.declared.Counts.{Counts}
use Rattle.reader.specs.Reads.{lent_reading, read_answer, sheet_after}
use Rattle.std.specs.Prelude.{Ok, Err}
use Rattle.tables.specs.Refusals.{OrRefused}
use Rattle.writer.specs.Answers.{writer_refusal, answer_for, bytes_left}

-- ---- what the claims speak of

-- words of 32 bits, as those of every slice of `u32` are
abbrev pub Small : List ℕ → Type 0
Small t = (k : ℕ) → get_or t k 0 < 2 ^ 32

pub record SmallWords (s : Sheet) : Type 0 where
  pub of_types : Small s.types
  pub of_floors : Small s.floors
  pub of_relationships : Small s.relationships
  pub of_rules : Small s.rules
  pub of_bodies : Small s.bodies
  pub of_objects : Small s.objects
  pub of_links : Small s.links
  pub of_events : Small s.events

-- the text that a call of the writer leaves in the lent bytes: as many of them as it answers
abbrev pub text_in : OrRefused ℕ → List ℕ → List ℕ
text_in (Ok size) bytes = take size bytes
text_in (Err r) bytes = []

abbrev pub written_text : Counts → Sheet → List ℕ → List ℕ
written_text n s out = text_in (answer_for n s out) (bytes_left n s out)

-- lent tables of whole rows, with enough of them for so many used ones
pub record Enough (n : Counts) (into : Sheet) : Type 0 where
  pub whole : not_whole layouts into ≡ false
  pub rows : any_overfull layouts n into ≡ false

-- A text that is read into lent tables: the answer is done with so many rows, and these are the book, the register and the batch.
pub record ReadAs (text : List ℕ) (into : Sheet) (n : Counts) (book : Book) (register : Register) (batch : List Event) : Type 0 where
  pub answer_is : read_answer (lent_reading text into) ≡ Ok n
  pub book_is : book_of n (sheet_after (lent_reading text into) into) ≡ book
  pub register_is : register_in n (sheet_after (lent_reading text into) into) ≡ register
  pub batch_is : batch_in n (sheet_after (lent_reading text into) into) ≡ batch

-- ---- the claims

-- "What the writer does not refuse becomes a text that reads back, given tables with enough rows": with the same counts, to the same book,
-- register and batch.
abbrev pub WrittenIsRead : Type 0
WrittenIsRead =
    (n : Counts) (s : Sheet) (out : List ℕ) → SmallWords s → writer_refusal n s (length out) ≡ none
    → (into : Sheet) → Enough n into → ReadAs (written_text n s out) into n (book_of n s) (register_in n s) (batch_in n s)

-- "the reader takes no other text for them": whatever the tables that it is read into, and the counts that the reader answers
abbrev pub NoOtherIsRead : Type 0
NoOtherIsRead =
    (n : Counts) (s : Sheet) (out : List ℕ) → SmallWords s → writer_refusal n s (length out) ≡ none
    → (text : List ℕ) (into : Sheet) (m : Counts) → ReadAs text into m (book_of n s) (register_in n s) (batch_in n s) → text ≡ written_text n s out
