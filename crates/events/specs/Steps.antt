-- Document 01, "Events": one event on tables that fit their schema, and what it leaves.
use Rattle.std.specs.Prelude.{ℕ, ◌*◌, ◌≤◌, ◌≡◌, List, length}
use Rattle.meaning.specs.Limits.{max_relationships}
use Rattle.meaning.specs.Schema.{Schema}
use Rattle.meaning.specs.Events.{Event, Lent, event_refusal}
use Rattle.meaning.proofs.Schemas.{TypesFit}
use Rattle.meaning.proofs.Registers.{RegisterFits}
use Rattle.tables.specs.Columns.{register_of}
use Rattle.tables.specs.Refusals.{found_of}
use Rattle.std.specs.Prelude as Std
use Rattle.std.specs.Prelude.{None}
use Rattle.event_effects.specs.Effects.{Applied, LossesKept}

-- tables that an event can meet: their register fits its schema, and the lent rows are there
pub record Ready (S : Schema) (lent : Lent) (n : ℕ) (objects : List ℕ) (m : ℕ) (links : List ℕ) : Type 0 where
  pub types_fit : TypesFit S.types
  pub relationships_few : length S.relationships ≤ max_relationships
  pub fits : RegisterFits S (register_of n objects m links)
  pub objects_lent_lem : lent.objects * 10 ≤ length objects
  pub links_lent_lem : lent.links * 3 ≤ length links
  pub objects_used : n ≤ lent.objects
  pub links_used : m ≤ lent.links

-- An event is refused, and the tables are as they were; or it has its effect, and the losses are those that were there and its own.
pub record StepDone (S : Schema) (lent : Lent) (e : Event) (n : ℕ) (objects : List ℕ) (m : ℕ) (links : List ℕ) (k : ℕ) (losses : List ℕ) (refused : Std.Option ℕ) (n' : ℕ) (objects' : List ℕ) (m' : ℕ) (links' : List ℕ) (k' : ℕ) (losses' : List ℕ) : Type 0 where
  pub refused_is : refused ≡ found_of (event_refusal S lent (register_of n objects m links) e)
  pub taken : refused ≡ None → Applied S e n objects m links n' objects' m' links'
  pub lost : refused ≡ None → LossesKept (register_of n objects m links) e m k losses m' k' losses'
  pub kept : (refused ≡ None → ⊥) → register_of n' objects' m' links' ≡ register_of n objects m links
  pub losses_kept : (refused ≡ None → ⊥) → (k' ≡ k) × (losses' ≡ losses)
