-- What no refusal gives: of a book and a register, and of a batch with them.
use Rattle.std.specs.Prelude.{ℕ, ◌*◌, ◌≤◌, ◌<◌, ◌≡◌, T, length}
use Rattle.std.proofs.Math.Option.{none}
use Rattle.meaning.specs.Limits.{max_types, max_floors, max_relationships, max_rules, max_objects, max_links, max_events, cell_count}
use Rattle.meaning.specs.Events.{known_event}
use Rattle.meaning.specs.Answers.{refusal}
use Rattle.rows.specs.Rows.{word_at}
use Rattle.tables.specs.Layouts.{Sheet}
use Rattle.tables.specs.Bodies.{whole_body}
use Rattle.tables.specs.Columns.{book_of, register_in, event_row}
use Rattle.tables.specs.declared.Counts.{Counts}
use Rattle.body_rows.specs.Marks.{body_of}

-- limits are kept, used rows are lent, refusals 3 to 5 are not met; so bodies are whole forms, and objects have known types of few cells
pub record Given (n : Counts) (s : Sheet) : Type 0 where
  pub few_types : n.types ≤ max_types
  pub few_floors : n.floors ≤ max_floors
  pub few_relationships : n.relationships ≤ max_relationships
  pub few_rules : n.rules ≤ max_rules
  pub few_objects : n.objects ≤ max_objects
  pub few_links : n.links ≤ max_links
  pub types_lent : n.types * 2 ≤ length s.types
  pub floors_lent : n.floors * 2 ≤ length s.floors
  pub relationships_lent : n.relationships * 2 ≤ length s.relationships
  pub rules_lent : n.rules * 2 ≤ length s.rules
  pub bodies_lent : n.rules * 256 ≤ length s.bodies
  pub objects_lent_lem : n.objects * 10 ≤ length s.objects
  pub links_lent_lem : n.links * 3 ≤ length s.links
  pub clear : refusal (book_of n s) (register_in n s) ≡ none
  pub whole : (i : ℕ) → i < n.rules → T (whole_body (body_of s.bodies i) (word_at s.rules 2 i 1))
  pub typed : (i : ℕ) → i < n.objects → word_at s.objects 10 i 1 < n.types
  pub cells : (i : ℕ) → i < n.objects → word_at s.types 2 (word_at s.objects 10 i 1) 1 ≤ cell_count

-- the events' table keeps its limit, and its used rows are lent
pub record EventsLent (n : Counts) (s : Sheet) : Type 0 where
  pub few_events : n.events ≤ max_events
  pub events_lent : n.events * 4 ≤ length s.events

-- each event is known by itself, and so is its kind
pub record EventsKnown (n : Counts) (s : Sheet) : Type 0 where
  pub known : (i : ℕ) → i < n.events → T (known_event (book_of n s).schema (event_row s.events i))
  pub kinds : (i : ℕ) → i < n.events → word_at s.events 4 i 0 < 7
