-- Document 01, "Events": an event's effect on the table of objects or of links, and what no refusal gives an event.
use Rattle.std.specs.Prelude.{ℕ, ◌+◌, ◌*◌, ◌≤◌, ◌<◌, ◌≡◌, T, length}
use mathlib.Core.List.{List, flat_map}
use Rattle.std.proofs.Math.Option.{none}
use Rattle.std.proofs.lemmas.List.Edits.{sets}
use Rattle.meaning.specs.Limits.{max_relationships, max_objects, max_links, max_events, cell_count}
use Rattle.meaning.specs.Schema.{ObjectType, Schema, cells_of}
use Rattle.meaning.specs.Register.{Object, Link, Register}
use Rattle.meaning.specs.Events.{Event, insert, delete, set, join, part, special, general, link_of, apply}
use Rattle.rows.specs.Rows.{read_rows, zero_past}
use Rattle.tables.specs.Columns.{object_row, link_row, register_of}
use Rattle.register.specs.Tables.{objects_with, links_with, ObjectsAscend, LinksAscend, object_place, link_place}
use Rattle.event_effects.specs.Losses.{Loss, loss_words, lost_at}

-- the table of objects, with n used rows, is m used rows of `now` after the event; "rows past the used ones are 0"
pub record ObjectsApplied (S : Schema) (e : Event) (n : ℕ) (objects : List ℕ) (m : ℕ) (now : List ℕ) : Type 0 where
  pub effect : (ls : List Link) → read_rows (object_row now) m ≡ (apply S e (objects_with n objects ls)).objects
  pub lengths : length now ≡ length objects
  pub zeros : T (zero_past objects 10 n) → T (zero_past now 10 m)

-- and the table of links
pub record LinksApplied (S : Schema) (e : Event) (n : ℕ) (links : List ℕ) (m : ℕ) (now : List ℕ) : Type 0 where
  pub effect : (os : List Object) → read_rows (link_row now) m ≡ (apply S e (links_with os n links)).links
  pub lengths : length now ≡ length links
  pub zeros : T (zero_past links 3 n) → T (zero_past now 3 m)

-- ---- losses

-- A batch turns no link into two losses, and it starts with at most 4,096 links and joins at most 256.
abbrev pub loss_rows : ℕ
loss_rows = max_links + max_events

-- The losses of k' used rows are those that k rows had, and more behind them.
pub record LossesAdded (more : List Loss) (k : ℕ) (losses : List ℕ) (k' : ℕ) (losses' : List ℕ) : Type 0 where
  pub count_is : k' ≡ k + length more
  pub losses_are : losses' ≡ sets losses (k * 2) (flat_map loss_words more)

-- A loss can be written of a link.
pub record CanLose (l : Link) (k : ℕ) (losses : List ℕ) : Type 0 where
  pub low : l.relationship < max_relationships
  pub room : k < loss_rows
  pub long : length losses ≡ loss_rows * 2

-- the used links name relationships that a schema can have, "at most 32"
abbrev pub RelationshipsLow : ℕ → List ℕ → Type 0
RelationshipsLow m links = (i : ℕ) → i < m → (link_row links i).relationship < max_relationships

-- a row is left for the loss of each link
pub record LossRoom (m k : ℕ) (losses : List ℕ) : Type 0 where
  pub room : k + m ≤ loss_rows
  pub long : length losses ≡ loss_rows * 2

-- Links can be taken out with their losses.
pub record CanTake (m : ℕ) (links : List ℕ) (k : ℕ) (losses : List ℕ) : Type 0 where
  pub lent : m * 3 ≤ length links
  pub low : RelationshipsLow m links
  pub left : LossRoom m k losses

-- ---- what no refusal gives

-- neither 9 nor 13 is met: the object is not there, and a row is left for it
pub record CanInsert (n : ℕ) (objects : List ℕ) (id : ℕ) : Type 0 where
  pub ascend : ObjectsAscend n objects
  pub absent : object_place n objects id ≡ none
  pub few : n < max_objects
  pub room : (n + 1) * 10 ≤ length objects

-- 8 is not met: the object is there
pub record CanChange (n : ℕ) (objects : List ℕ) (id : ℕ) : Type 0 where
  pub ascend : ObjectsAscend n objects
  pub there : object_place n objects id ≡ none → ⊥
  pub lent : n * 10 ≤ length objects

-- neither 9 nor 13 is met: the link is not there, and a row is left for it
pub record CanJoin (n : ℕ) (links : List ℕ) (l : Link) : Type 0 where
  pub ascend : LinksAscend n links
  pub absent : link_place n links l ≡ none
  pub few : n < max_links
  pub room : (n + 1) * 3 ≤ length links

-- 10 is not met: the link is there
pub record CanPart (n : ℕ) (links : List ℕ) (l : Link) : Type 0 where
  pub ascend : LinksAscend n links
  pub there : link_place n links l ≡ none → ⊥
  pub lent : n * 3 ≤ length links

-- 8 is not met, and the links that go with the object are those of a schema
pub record CanDelete (n : ℕ) (objects : List ℕ) (m : ℕ) (links : List ℕ) (id : ℕ) : Type 0 where
  pub object : CanChange n objects id
  pub lent : m * 3 ≤ length links
  pub low : RelationshipsLow m links

-- What no refusal gives an event on tables of n objects and m links. For a general: "0 to 8 cells" of a type.
unfoldable pub Can : List ObjectType → ℕ → List ℕ → ℕ → List ℕ → Event → Type 0
Can types n objects m links (insert id t) = CanInsert n objects id
Can types n objects m links (delete id) = CanDelete n objects m links id
Can types n objects m links (set id k v) = CanChange n objects id × (k < cell_count)
Can types n objects m links (join r a b) = CanJoin m links (link_of r a b)
Can types n objects m links (part r a b) = CanPart m links (link_of r a b)
Can types n objects m links (special id t) = CanChange n objects id
Can types n objects m links (general id t) = CanChange n objects id × (cells_of types t ≤ cell_count)

-- Tables after the event: their register is what `apply` says, they are as long as before, and "rows past the used ones are 0".
pub record Applied (S : Schema) (e : Event) (n : ℕ) (objects : List ℕ) (m : ℕ) (links : List ℕ) (n' : ℕ) (objects' : List ℕ) (m' : ℕ) (links' : List ℕ) : Type 0 where
  pub effect : register_of n' objects' m' links' ≡ apply S e (register_of n objects m links)
  pub objects_length : length objects' ≡ length objects
  pub links_length : length links' ≡ length links
  pub objects_zero : T (zero_past objects 10 n) → T (zero_past objects' 10 n')
  pub links_zero : T (zero_past links 3 m) → T (zero_past links' 3 m')

-- The losses after the event, where m links and k losses were used before it: those that were there, and those of the links that a delete took along. Of links
-- and losses together there is at most one more.
pub record LossesKept (g : Register) (e : Event) (m k : ℕ) (losses : List ℕ) (m' k' : ℕ) (losses' : List ℕ) : Type 0 where
  pub added : LossesAdded (lost_at g e) k losses k' losses'
  pub grown : k' + m' ≤ k + m + 1
