-- Document 01, "After a batch": a batch's events one after the other on a copy of the register, the type that each event's object had when it came, and
-- the links that its deletes took along.
use Rattle.std.specs.Prelude.{ℕ, ◌*◌, ◌-◌, ◌≤◌, ◌≡◌, length, replicate}
use mathlib.Core.List.{List, [], ◌++◌, map, flat_map}
use Rattle.std.proofs.Math.Option.{Option, none, some}
use Rattle.meaning.specs.Limits.{max_objects, max_links, max_events}
use Rattle.meaning.specs.Schema.{Schema}
use Rattle.meaning.specs.Register.{Register}
use Rattle.meaning.specs.Events.{Event, Lent, Refusal, after, batch_refusal}
use Rattle.meaning.specs.Reach.{Step, steps_of}
use Rattle.rows.specs.Rows.{rows_lent, padded}
use Rattle.tables.specs.Columns.{register_of}
use Rattle.tables.specs.Met.{no_type, met_by}
use Rattle.std.specs.Prelude.{Ok}
use Rattle.tables.specs.Refusals.{OrRefused, verdict_of}
use Rattle.event_effects.specs.Losses.{loss_words, losses_by}
use Rattle.event_effects.specs.Effects.{loss_rows}
use Rattle.events.specs.declared.Ran.{Ran}
use Rattle.events.specs.Steps.{Ready}

-- ---- a run

-- the rows lent for the register's tables, and words for a list
abbrev pub lent_by : List ℕ → List ℕ → ℕ → Lent
lent_by objects links words = record { objects = rows_lent objects 10; links = rows_lent links 3; words = words }

-- tables that a batch meets, and that it leaves: ready for an event, and within the limits, "at most 1,024" and "at most 4,096"
pub record Fit (S : Schema) (lent : Lent) (n : ℕ) (objects : List ℕ) (m : ℕ) (links : List ℕ) : Type 0 where
  pub ready : Ready S lent n objects m links
  pub objects_few : n ≤ max_objects
  pub links_few : m ≤ max_links

-- What a run asks: tables that refusals 2, 3 and 5 do not meet, a scratch that 6 does not meet, and "0 to 256 events".
pub record CanRun (S : Schema) (n : ℕ) (objects : List ℕ) (m : ℕ) (links scratch_objects scratch_links : List ℕ) (count : ℕ) : Type 0 where
  pub fit : Fit S (lent_by objects links 0) n objects m links
  pub objects_scratch : length objects ≤ length scratch_objects
  pub links_scratch : length links ≤ length scratch_links
  pub events_few : count ≤ max_events

-- ---- what a run answers

-- for each event the type that its object had when it came, and past the events none
abbrev pub met_table : List Step → List ℕ
met_table steps = map met_by steps ++ replicate (max_events - length steps) no_type

-- Req 01: the losses of the links that deletes took along, two words each in the order in which they went, and zeros past them
abbrev pub loss_table : List Step → List ℕ
loss_table steps = padded (loss_rows * 2) (flat_map loss_words (losses_by steps))

-- a verdict, the used rows of objects and links, and what is kept of the steps that were taken
unfoldable pub ran_over : OrRefused (Unit {0}) → ℕ → ℕ → List Step → Ran
ran_over verdict objects links steps =
    record {
      verdict = verdict;
      held = record { objects = objects; links = links; losses = length (losses_by steps) };
      met = met_table steps;
      losses = loss_table steps;
    }

-- "A refusal changes nothing": the register as it was lent, and no step taken. Else the register after the batch, and the steps of its events.
unfoldable pub ran_by : Option Refusal → Schema → Register → List Event → Ran
ran_by (some r) S g es = ran_over (verdict_of (some r)) (length g.objects) (length g.links) []
ran_by none S g es = ran_over (verdict_of none) (length (after S g es).objects) (length (after S g es).links) (steps_of S g es)

-- What a batch that is not refused leaves in the tables worked on: n and m used rows are the register after it. Its losses fit their table: a link that was
-- there or joined is lost at most once, 4,096 and 256. Words past the used rows are the scratch's, and free.
pub record RunLeft (S : Schema) (lent : Lent) (g : Register) (es : List Event) (n : ℕ) (objects : List ℕ) (m : ℕ) (links : List ℕ) : Type 0 where
  pub end : register_of n objects m links ≡ after S g es
  pub fit : Fit S lent n objects m links
  pub losses_few : length (losses_by (steps_of S g es)) ≤ loss_rows

-- A run of the events es from register g: the first refusal, "its refusals are met there", and what it answers; where none is met, what the batch leaves. Where
-- one is met, the tables worked on are the scratch, "whose contents after a call are never stated".
pub record RunDone (S : Schema) (lent : Lent) (g : Register) (es : List Event) (ran : Ran) (objects links : List ℕ) : Type 0 where
  pub ran_is : ran ≡ ran_by (batch_refusal S lent g es) S g es
  pub left : ran.verdict ≡ Ok tt → RunLeft S lent g es ran.held.objects objects ran.held.links links
