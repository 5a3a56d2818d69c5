-- The batch check of lent tables: its answer, its list of pairs, and what it leaves in each table, for all arguments, refused ones too.
use Rattle.std.specs.Prelude.{ℕ, ◌≡◌, Bool, length}
use mathlib.Core.List.{List, flat_map}
use Rattle.meaning.specs.Answers as Meaning
use Rattle.meaning.specs.Answers.{accepted, broken_at, refused, Outcome, outcome_unless, batch_check}
use Rattle.rows.specs.Rows.{in_front, padded}
use Rattle.tables.specs.Layouts.{Sheet, layouts}
use Rattle.tables.specs.Columns.{book_of, register_in, batch_in}
use Rattle.tables.specs.Words.{object_words, link_words}
use Rattle.tables.specs.Refusals.{table_refusal}
use Rattle.tables.specs.Answers.{answer_of}
use Rattle.tables.specs.declared.Counts.{Counts}
use Rattle.events.specs.Runs.{lent_by}
use Rattle.pair_list.specs.Pairs.{pair_words}
use Rattle.batch.specs.declared.Checked.{Checked}

-- The batch check of the book, the register and the batch that the tables hold, after refusals 2 and 6 of the tables themselves. `short`: "scratch
-- shorter than the register's tables"; `words`: how many are lent for the list.
unfoldable pub lent_outcome : Counts → Sheet → Bool → ℕ → Outcome
lent_outcome n s short words =
    outcome_unless (table_refusal layouts n s short) (register_in n s)
    (batch_check (book_of n s) (lent_by s.objects s.links words) (register_in n s) (batch_in n s))

-- A table after the check: where the batch is accepted, the rows of the register after it, and zeros past them; else as it was lent.
abbrev pub table_after : Meaning.Answer → List ℕ → List ℕ → List ℕ
table_after accepted rows before = padded (length before) rows
table_after (broken_at rule id) rows before = before
table_after (refused number place) rows before = before

-- The register's tables after the check, by its outcome.
pub record RegisterLeft (o : Outcome) (objects links objects' links' : List ℕ) : Type 0 where
  pub objects_are : objects' ≡ table_after o.answer (flat_map object_words o.register.objects) objects
  pub links_are : links' ≡ table_after o.answer (flat_map link_words o.register.links) links

-- What a batch check says and leaves, by its outcome: the answer, how many pairs, how many rows of objects and links are used then; "words past a list ..
-- keep what they held", and a refusal lists no pair.
pub record Left (o : Outcome) (list objects links : List ℕ) (r : Checked) (list' objects' links' : List ℕ) : Type 0 where
  pub answer_is : r.answer ≡ answer_of o.answer
  pub pairs_are : r.pairs ≡ length o.pairs
  pub objects_used : r.objects ≡ length o.register.objects
  pub links_used : r.links ≡ length o.register.links
  pub list_is : list' ≡ in_front (pair_words o.pairs) list
  pub register : RegisterLeft o objects links objects' links'
