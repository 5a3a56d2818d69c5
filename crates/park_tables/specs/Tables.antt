-- What is printed of a book, a register and a batch that were read: the full check's answer, the rules' event lists, and the text after the batch.
use Rattle.std.specs.Prelude.{ℕ, false, length}
use mathlib.Core.List.{List, [], flat_map}
use Rattle.std.proofs.Math.Option.{Option, none, some}
use Rattle.meaning.specs.Forms.{Book}
use Rattle.meaning.specs.Events.{Refusal}
use Rattle.meaning.specs.Answers.{Answer, accepted, broken_at, refused, Outcome}
use Rattle.rows.specs.Rows.{read_rows}
use Rattle.tables.specs.Layouts.{Sheet, sheet_of}
use Rattle.tables.specs.Columns.{book_of}
use Rattle.tables.specs.Words.{object_words, link_words}
use Rattle.tables.specs.declared.Counts.{Counts}
use Rattle.text.specs.Texts.{max_text}
use Rattle.text.specs.Sheets.{text_of}
use Rattle.full.specs.Answers.{lent_answer}
use Rattle.event_list.specs.Answers.{lent_book_refusal, list_of}
use Rattle.writer.specs.Answers.{writer_refusal}
use Rattle.batch.specs.Checked.{lent_outcome, table_after}
use Rattle.printing.specs.Printed.{printed}
use Rattle.answers.specs.Checks.{outcome_printed}
use Rattle.event_lines.specs.Events.{events_line}

-- a refusal by itself, where one is met
unfoldable pub unless_refused : Option Refusal → List ℕ → List ℕ
unless_refused none bytes = bytes
unless_refused (some r) bytes = printed (refused r.number r.place) []

-- "A full check answers the first broken pair .. or accepted": its answer line, and no pairs
unfoldable pub full_printed : Counts → Sheet → List ℕ
full_printed n s = printed (lent_answer n s) []

-- ---- "Event list of a rule"

-- a line for each of the first rules of a book
unfoldable pub rule_lines : Book → ℕ → List ℕ
unfolding flat_map
rule_lines k count = flat_map (λ rule. events_line rule (list_of k rule)) (read_rows (λ rule. rule) count)

-- refusals 2, 6, 3 and 4 of the book, once, or a line for each of its rules; the register and the batch are not looked at
unfoldable pub events_printed : Counts → Sheet → List ℕ
events_printed n s = unless_refused (lent_book_refusal n s) (rule_lines (book_of n s) n.rules)

-- ---- "After a batch"

-- how many rows are used after a batch: its register, and no event
unfoldable pub counts_left : Outcome → Counts → Counts
counts_left o n =
    record {
      types = n.types;
      floors = n.floors;
      relationships = n.relationships;
      rules = n.rules;
      objects = length o.register.objects;
      links = length o.register.links;
      events = 0;
    }

-- the tables after a batch, without its events
unfoldable pub sheet_left : Outcome → Sheet → Sheet
sheet_left o s =
    sheet_of s.types s.floors s.relationships s.rules s.bodies
    (table_after o.answer (flat_map object_words o.register.objects) s.objects)
    (table_after o.answer (flat_map link_words o.register.links) s.links)
    []

-- tables as their one text; 2 where it is above 65,536 bytes
unfoldable pub text_printed : Counts → Sheet → List ℕ
text_printed n s = unless_refused (writer_refusal n s max_text) (text_of n s)

unfoldable pub if_accepted : Answer → List ℕ → List ℕ → List ℕ
if_accepted accepted bytes other = bytes
if_accepted (broken_at rule id) bytes other = other
if_accepted (refused number place) bytes other = other

-- of an accepted batch the text of book and register after it, ready for the next batch; else what a batch check prints
unfoldable pub left_printed : Outcome → Counts → Sheet → List ℕ
left_printed o n s = if_accepted o.answer (text_printed (counts_left o n) (sheet_left o s)) (outcome_printed o)

unfoldable pub after_printed : ℕ → Counts → Sheet → List ℕ
after_printed words n s = left_printed (lent_outcome n s false words) n s
