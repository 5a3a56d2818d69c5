-- Which register stays: that after an accepted batch, else the lent one.
use Rattle.std.specs.Prelude.{ℕ, ◌*◌, ◌≡◌, List, length}
use Rattle.rows.specs.Rows.{cleared_past, copied}
use Rattle.tables.specs.declared.Answer.{Answer}
use Rattle.tables.specs.declared.Answer.TheVariants.{Accepted, Broken, Refused}
use Rattle.tables.specs.declared.Counts.{Counts}
use Rattle.batch_judge.specs.declared.Judged.{Judged}
use Rattle.batch.specs.declared.Checked.{Checked}

-- by the answer: what an accepted batch leaves, else what was lent
abbrev pub kept : {A : Type 0} → Answer → A → A → A
kept Accepted after before = after
kept (Broken rule id) after before = before
kept (Refused number place) after before = before

-- the used rows of a table's copy, and zeros past them, in the table's length
abbrev pub brought_back : List ℕ → List ℕ → ℕ → ℕ → List ℕ
brought_back table copy width used = cleared_past (copied table copy (used * width)) width used

-- what is said of the register after it was settled which one stays
pub record Settles (j : Judged) (n after : Counts) (objects links scratch_objects scratch_links : List ℕ) (r : Checked) (objects' links' : List ℕ) : Type 0 where
  pub answer_same : r.answer ≡ j.answer
  pub pairs_same : r.pairs ≡ j.pairs
  pub objects_used : r.objects ≡ kept j.answer after.objects n.objects
  pub links_used : r.links ≡ kept j.answer after.links n.links
  pub objects_kept : objects' ≡ kept j.answer (brought_back objects scratch_objects 10 after.objects) objects
  pub links_kept : links' ≡ kept j.answer (brought_back links scratch_links 3 after.links) links
