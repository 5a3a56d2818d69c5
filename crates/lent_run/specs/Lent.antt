-- Document 01, "Where each refusal is met": refusals 2 to 13 and 15 of a lent batch, and what it leaves where none is met.
use Rattle.std.specs.Prelude.{◌≡◌, Bool, ◌||◌, List, ℕ, ltb, length}
use Rattle.std.proofs.Math.Option.{Option}
use Rattle.meaning.specs.Lists.{first_of}
use Rattle.meaning.specs.Events.{Refusal, batch_refusal}
use Rattle.tables.specs.Layouts.{Sheet, layouts}
use Rattle.tables.specs.Columns.{book_of, register_in, batch_in}
use Rattle.tables.specs.Refusals.{refusal_of}
use Rattle.tables.specs.declared.Counts.{Counts}
use Rattle.std.specs.Prelude.{Ok}
use Rattle.events.specs.declared.Ran.{Ran}
use Rattle.events.specs.Runs.{lent_by, ran_by, RunLeft}

-- 6: "scratch shorter than the register's tables"
abbrev pub shorter : List ℕ → List ℕ → Bool
shorter scratch table = ltb (length scratch) (length table)

abbrev pub scratch_short : List ℕ → List ℕ → List ℕ → List ℕ → Bool
scratch_short objects links scratch_objects scratch_links = shorter scratch_objects objects || shorter scratch_links links

-- what the events of a batch meet, one after the other, on the lent register
abbrev pub events_meet : Counts → Sheet → Option Refusal
events_meet n s = batch_refusal (book_of n s).schema (lent_by s.objects s.links 0) (register_in n s) (batch_in n s)

-- "Checked from the top": 2, 6, 3, 4 and 5 of the tables, and then what the events meet.
unfoldable pub run_refusal : Counts → Sheet → List ℕ → List ℕ → Option Refusal
run_refusal n s scratch_objects scratch_links =
    first_of (refusal_of layouts n s (scratch_short s.objects s.links scratch_objects scratch_links)) (events_meet n s)

-- A lent batch that was run: what it answers, by the first refusal, and where none is met what it leaves in the scratch. A refusal leaves the scratch free.
pub record LentRun (n : Counts) (s : Sheet) (scratch_objects scratch_links : List ℕ) (ran : Ran) (objects links : List ℕ) : Type 0 where
  pub ran_is : ran ≡ ran_by (run_refusal n s scratch_objects scratch_links) (book_of n s).schema (register_in n s) (batch_in n s)
  pub left : ran.verdict ≡ Ok tt
      → RunLeft (book_of n s).schema (lent_by s.objects s.links 0) (register_in n s) (batch_in n s) ran.held.objects objects ran.held.links links
