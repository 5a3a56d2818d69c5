-- What is known of a batch at its end: the register's tables hold what it left, and nothing of it was refused; and what its selection marks.
use Rattle.std.specs.Prelude.{ℕ, ◌≤◌, ◌<◌, ◌≡◌, false, ◌&&◌, List, ltb, length, get_or}
use Rattle.meaning.specs.Lists.{keep}
use Rattle.meaning.specs.Limits.{max_types, max_objects}
use Rattle.meaning.specs.Reach.{Change, some_step, taken, events_select, selected, selected_pairs}
use Rattle.meaning.specs.EventList.{touched}
use Rattle.rows.specs.Rows.{read_rows}
use Rattle.tables.specs.Losses.{lost_in, LossesLow}
use Rattle.tables.specs.Layouts.{Sheet}
use Rattle.tables.specs.Columns.{rule_row, book_of}
use Rattle.tables.specs.declared.Counts.{Counts}
use Rattle.trace_places.specs.Traces.{Seen}
use Rattle.walks.specs.Site.{id_in}
use Rattle.pair_marks.specs.Marks.{marked}

-- the tables are those of the batch's end, with the type that each event met and the losses that its deletes wrote; its events select no pair of "a rule none
-- of whose listed event types occurs"
pub record Ended (c : Change) (n : Counts) (s : Sheet) (met : List ℕ) (count : ℕ) (losses : List ℕ) : Type 0 where
  pub seen : Seen c n s.types s.objects s.links s.events (λ i. get_or met i 0)
  pub schema_is : c.schema ≡ (book_of n s).schema
  pub met_low : (i : ℕ) → i < n.events → get_or met i 0 ≤ max_types
  pub losses_few : count ≤ 4352
  pub losses_low : LossesLow losses count
  pub lost : (r u : ℕ) → lost_in losses count r u ≡ some_step c (taken r u)
  pub untouched : (i : ℕ) → i < n.rules → touched c (rule_row s.rules s.bodies i) ≡ false → (id : ℕ) → events_select c (rule_row s.rules s.bodies i) id ≡ false

-- the rules that it touches
abbrev pub touched_rules : Change → Counts → Sheet → List ℕ
touched_rules c n s = keep (λ i. touched c (rule_row s.rules s.bodies i)) (read_rows (λ i. i) n.rules)

-- "Pair (rule, s) is selected": it is marked, and nothing else is; and so many pairs are they
pub record Selects (c : Change) (n : Counts) (s : Sheet) (marks : List ℕ) (count : ℕ) : Type 0 where
  pub each : (rule row : ℕ) → row < max_objects
      → marked marks rule row ≡ (ltb rule n.rules && (ltb row n.objects && selected c (rule_row s.rules s.bodies rule) (id_in s.objects row)))
  pub number : count ≡ length (selected_pairs (book_of n s) c)
