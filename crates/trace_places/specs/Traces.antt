-- What is kept of a batch that was run, for the reach rules: one table of 16,675 half words, by the rows of the register at the end. An event has two
-- places, 2 i and 2 i + 1: an event of an object names it at the first, a join or part names its source at the first and its target at the second.
--   0 to 511        the row of the object that each place names; 1024 where it names none, or one that is not there at the end
--   512 to 1023     1 + the next place of the same row; 0 at the end
--   1024 to 1279    1 where the link that an event joins is there at the end
--   1280 to 1535    the type that an event met; 32 for none
--   1536 to 1567    for each type t, the set of directions in which `all t` moves
--   1568 to 5919    the row of the object of each loss (`tables/specs/Losses`); 1024 where it is not there at the end
--   5920 to 10271   1 + the slot, 1568 + its number, of the next loss of the same row; 0 at the end
--   10272 to 14623  the role of each loss
--   14624           how many losses there are
--   14625 to 16674  for each row, and 1024 for none: 1 + its first place, 0 where it has none; 1 + the slot of its first loss, 0 where it has none
use Rattle.std.specs.Prelude.{ℕ, zero, suc, ◌+◌, ◌*◌, ◌/◌, ◌%◌, ◌≤◌, ◌<◌, ◌≡◌, Bool, List, map, eqb, get_or}
use Rattle.std.proofs.Math.Option.{Option, none, some}
use Rattle.std.proofs.Math.ListN.{get_elem?}
use Rattle.meaning.specs.Limits.{max_types, max_objects, max_events}
use Rattle.meaning.specs.Schema.{ObjectType}
use Rattle.meaning.specs.Register.{is_under, has_link}
use Rattle.meaning.specs.Events.{Event, insert, delete, set, join, part, special, general, link_of}
use Rattle.meaning.specs.Reach.{Step, Change, some_step, taken, Direction, all_moves}
use Rattle.tables.specs.Columns.{types_of, register_of, event_row, events_of}
use Rattle.tables.specs.declared.Counts.{Counts}
use Rattle.tables.specs.declared.Sheet as Code
use Rattle.register.specs.Tables.{ObjectsAscend, object_place}
use Rattle.chains.specs.Chains.{Chained}
use Rattle.rows.specs.Rows.{word_at}
use Rattle.tables.specs.Met.{object_of}
use Rattle.tables.specs.Losses.{lost_in}
use Rattle.directions.specs.Sets.{has}
use Rattle.trace_places.specs.Questions.{Question, met_under, answers_at}

-- the id that an event names at its first place (0) and at its second
abbrev pub named_at : Event → ℕ → Option ℕ
named_at (insert id t) zero = some id
named_at (delete id) zero = some id
named_at (set id k v) zero = some id
named_at (join r a b) zero = some a
named_at (part r a b) zero = some a
named_at (special id t) zero = some id
named_at (general id t) zero = some id
named_at (insert id t) (suc j) = none
named_at (delete id) (suc j) = none
named_at (set id k v) (suc j) = none
named_at (join r a b) (suc j) = some b
named_at (part r a b) (suc j) = some b
named_at (special id t) (suc j) = none
named_at (general id t) (suc j) = none

-- a row, if there is one; else the one past the last
abbrev pub or_past : Option ℕ → ℕ
or_past none = max_objects
or_past (some row) = row

-- the row of the object of an id at the end, if an id is named
abbrev pub row_named : ℕ → List ℕ → Option ℕ → ℕ
row_named n objects none = max_objects
row_named n objects (some id) = or_past (object_place n objects id)

-- the row that a place names
abbrev pub place_row : ℕ → List ℕ → List ℕ → ℕ → ℕ
place_row n objects events p = row_named n objects (named_at (event_row events (p / 2)) (p % 2))

-- The batch c as the code has it: it ends in the register of the tables, its events are the first rows of their table, and of each the type that its object had when it came is kept.
pub record Seen (c : Change) (n : Counts) (types objects links events : List ℕ) (met : ℕ → ℕ) : Type 0 where
  pub few : n.events ≤ max_events
  pub types_are : c.schema.types ≡ types_of n.types types
  pub end_is : c.end ≡ register_of n.objects objects n.links links
  pub events_are : map (λ (s : Step). s.event) c.steps ≡ events_of n.events events
  pub met_is : (i : ℕ) (s : Step) → get_elem? c.steps i ≡ some s → (id t : ℕ) → object_of s.event ≡ some id → is_under c.schema.types s.met id t ≡ met_under c.schema.types (met i) t

-- the table's columns
abbrev pub next_place : List ℕ → ℕ → ℕ
next_place trace p = get_or trace (512 + p) 0

abbrev pub there_word : List ℕ → ℕ → ℕ
there_word trace i = get_or trace (1024 + i) 0

abbrev pub met_word : List ℕ → ℕ → ℕ
met_word trace i = get_or trace (1280 + i) 0

abbrev pub all_set : List ℕ → ℕ → ℕ
all_set trace t = get_or trace (1536 + t) 0

abbrev pub first_place : List ℕ → ℕ → ℕ
first_place trace row = get_or trace (14625 + 2 * row) 0

abbrev pub next_loss : List ℕ → ℕ → ℕ
next_loss trace slot = get_or trace (4352 + slot) 0

abbrev pub loss_role : List ℕ → ℕ → ℕ
loss_role trace j = get_or trace (10272 + j) 0

abbrev pub loss_count : List ℕ → ℕ
loss_count trace = get_or trace 14624 0

abbrev pub first_loss : List ℕ → ℕ → ℕ
first_loss trace row = get_or trace (14626 + 2 * row) 0

-- the slot of a loss
abbrev pub loss_slot : ℕ → ℕ
loss_slot j = 1568 + j

-- the row that stands there
abbrev pub row_lost : List ℕ → ℕ → ℕ
row_lost trace j = get_or trace (loss_slot j) 0

-- the row of the object of a loss, by the table that the deletes wrote
abbrev pub loss_row : ℕ → List ℕ → List ℕ → ℕ → ℕ
loss_row n objects losses j = row_named n objects (some (word_at losses 2 j 1))

-- The table has the losses of the batch, which are those that its deletes wrote.
pub record LossesTraced (c : Change) (n : ℕ) (objects losses trace : List ℕ) : Type 0 where
  pub few : loss_count trace ≤ 4352
  pub row_is : (j : ℕ) → j < loss_count trace → row_lost trace j ≡ loss_row n objects losses j
  pub role_is : (j : ℕ) → j < loss_count trace → loss_role trace j ≡ word_at losses 2 j 0
  pub chained : Chained loss_slot (row_lost trace) (loss_count trace) (next_loss trace) (first_loss trace) 0
  pub lost_is : (r u : ℕ) → lost_in losses (loss_count trace) r u ≡ some_step c (taken r u)

-- the event of a place answers a question about the object that the place names, by what is kept
abbrev pub place_answers : List ObjectType → Question → List ℕ → List ℕ → ℕ → Bool
place_answers types q events trace p = answers_at types q (event_row events (p / 2)) (p % 2) (met_word trace (p / 2)) (eqb (there_word trace (p / 2)) 1)

-- each place stands at its own number
abbrev pub itself : ℕ → ℕ
itself p = p

-- the table is that of the batch
pub record Traced (c : Change) (n : Counts) (types objects links events trace : List ℕ) : Type 0 where
  pub seen : Seen c n types objects links events (met_word trace)
  pub ascends : ObjectsAscend n.objects objects
  pub objects_few : n.objects ≤ max_objects
  pub row_is : (p : ℕ) → p < 2 * n.events → get_or trace p 0 ≡ place_row n.objects objects events p
  pub chained : Chained itself (place_row n.objects objects events) (2 * n.events) (next_place trace) (first_place trace) 0
  pub there_is : (i : ℕ) → i < n.events → (r a b : ℕ) → event_row events i ≡ join r a b → eqb (there_word trace i) 1 ≡ has_link c.end (link_of r a b)
  pub all_is : (t : ℕ) → t < max_types → (d : Direction) → has (all_set trace t) d ≡ all_moves c t d
  pub all_small_lem : (t : ℕ) → t < max_types → all_set trace t < 4
  pub losses : List ℕ
  pub lost : LossesTraced c n.objects objects losses trace

-- it is that of some batch
abbrev pub Traces : Counts → List ℕ → List ℕ → List ℕ → List ℕ → List ℕ → Type 0
Traces n types objects links events trace = (c : Change) × Traced c n types objects links events trace

-- the same of lent tables
abbrev pub TracedIn : Change → Counts → Code.Sheet → List ℕ → Type 0
TracedIn c n s trace = Traced c n s.types.now s.objects.now s.links.now s.events.now trace

abbrev pub TracesIn : Counts → Code.Sheet → List ℕ → Type 0
TracesIn n s trace = (c : Change) × TracedIn c n s trace
