-- A lent batch's run as numbers, for programs in other languages.
use Rattle.std.specs.Prelude.{ℕ, ◌≡◌, length}
use mathlib.Core.List.{List, flat_map}
use Rattle.std.proofs.Math.Option.{none}
use Rattle.meaning.specs.Register.{Register}
use Rattle.meaning.specs.Events.{after}
use Rattle.rows.specs.Rows.{padded}
use Rattle.tables.specs.Layouts.{Sheet}
use Rattle.tables.specs.Columns.{book_of, register_in, batch_in}
use Rattle.tables.specs.Refusals.{verdict_of}
use Rattle.tables.specs.Words.{object_words, link_words}
use Rattle.tables.specs.declared.Counts.{Counts}
use Rattle.lent_run.specs.Lent.{run_refusal}
use Rattle.told.specs.Coded.{ran_words}

-- "the register after the batch, *the end*"
abbrev pub end_of : Counts → Sheet → Register
end_of n s = after (book_of n s).schema (register_in n s) (batch_in n s)

-- A run: its words, and in the two tables lent for the end the register after the batch, "all unused rows are 0". Only a refusal leaves these two free: the
-- batch was run in them as in a scratch, "whose contents after a call are never stated".
pub record RunTold (n : Counts) (s : Sheet) (end_objects end_links words objects links : List ℕ) : Type 0 where
  pub words_are : words ≡ ran_words (verdict_of (run_refusal n s end_objects end_links)) (length (end_of n s).objects) (length (end_of n s).links)
  pub objects_are : run_refusal n s end_objects end_links ≡ none → objects ≡ padded (length end_objects) (flat_map object_words (end_of n s).objects)
  pub links_are : run_refusal n s end_objects end_links ≡ none → links ≡ padded (length end_links) (flat_map link_words (end_of n s).links)

-- the used rows of a book, a register and a batch; and of a book and a register alone
abbrev pub all_used : ℕ → ℕ → ℕ → ℕ → ℕ → ℕ → ℕ → Counts
all_used types floors relationships rules objects links events =
    record { types = types; floors = floors; relationships = relationships; rules = rules; objects = objects; links = links; events = events }

abbrev pub used_rows : ℕ → ℕ → ℕ → ℕ → ℕ → ℕ → Counts
used_rows types floors relationships rules objects links = all_used types floors relationships rules objects links 0
