-- Document 01, "Book A": what a program prints of a text, in the room that it lends.
use Rattle.std.specs.Prelude.{ℕ, ◌*◌, false, cond, List, [], ltb, length, replicate}
use Rattle.meaning.specs.Answers.{Outcome, refused}
use Rattle.tables.specs.Layouts.{Sheet, sheet_of}
use Rattle.tables.specs.declared.Counts.{Counts}
use Rattle.text.specs.Texts.{Reading}
use Rattle.reader.specs.Reads.{lent_reading, read_answer, sheet_after}
use Rattle.std.specs.Prelude.{Ok, Err}
use Rattle.tables.specs.Refusals.{OrRefused}
use Rattle.batch.specs.Checked.{lent_outcome}
use Rattle.printing.specs.Printed.{printed}

-- what a program lends: the bytes of a text, the rows of each table, and the words for the list
pub record Room : Type 0 where
  pub bytes : ℕ
  pub objects : ℕ
  pub links : ℕ
  pub rules : ℕ
  pub events : ℕ
  pub words : ℕ

-- "It reads at most 8,192 bytes and lends tables for 128 objects, 512 links, 8 rules and 64 events, with 2,048 words for the list"
abbrev pub check_room : Room
check_room = record { bytes = 8192; objects = 128; links = 512; rules = 8; events = 64; words = 2048 }

-- its tables, and those for every type, floor and relationship that there can be, each rows times the words of a row; nothing stands in them yet
unfoldable pub lent_sheet : Room → Sheet
lent_sheet room =
    sheet_of (replicate (32 * 2) 0) (replicate (256 * 2) 0) (replicate (32 * 2) 0) (replicate (room.rules * 2) 0) (replicate (room.rules * 64 * 4) 0) (replicate (room.objects * 10) 0) (replicate (room.links * 3) 0)
    (replicate (room.events * 4) 0)

unfoldable pub outcome_printed : Outcome → List ℕ
outcome_printed o = printed o.answer o.pairs

-- the batch check of tables that were read
unfoldable pub batch_printed : ℕ → Counts → Sheet → List ℕ
batch_printed words n s = outcome_printed (lent_outcome n s false words)

-- what a read says, with the tables that it left: a refusal of the text, or what `show` prints of the tables
unfoldable pub read_printed : (Counts → Sheet → List ℕ) → OrRefused Counts → Sheet → List ℕ
read_printed show (Ok n) s = show n s
read_printed show (Err r) s = printed (refused r.number r.place) []

unfoldable pub reading_printed : (Counts → Sheet → List ℕ) → Reading → Sheet → List ℕ
reading_printed show r before = read_printed show (read_answer r) (sheet_after r before)

-- "a longer text (line 0) or a larger count is refused 2"
unfoldable pub text_prints : Room → (Counts → Sheet → List ℕ) → List ℕ → List ℕ
text_prints room show text =
    cond (ltb room.bytes (length text)) (printed (refused 2 0) []) (reading_printed show (lent_reading text (lent_sheet room)) (lent_sheet room))

unfoldable pub check_prints : List ℕ → List ℕ
check_prints = text_prints check_room (batch_printed check_room.words)
