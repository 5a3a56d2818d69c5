-- An index of the links in both directions, for "role 2r goes from source to target of relationship r, role 2r + 1 back". It is one table
-- of 81,920 words, and names objects by their rows:
--   0 to 8191        the far row of each slot
--   8192 to 16383    1 + the next slot of the same role and near row; 0 at the end
--   16384 to 81919   for each role and row, 1 + the first slot of that role from that object; 0 where there is none
-- Link i has two places, so that a place's parity is that of its role: 2 i, forward from its source, at slot i, and 2 i + 1, backward from
-- its target, at slot 4096 + i.
use Rattle.std.specs.Prelude.{ℕ, zero, suc, ◌+◌, ◌*◌, ◌/◌, ◌%◌, ◌≤◌, ◌<◌, ◌≡◌, List, get_or}
use Rattle.std.proofs.Math.Option.{Option, none, some}
use Rattle.meaning.specs.Limits.{max_relationships, max_objects, max_links}
use Rattle.meaning.specs.Register.{near_end, far_end}
use Rattle.tables.specs.Columns.{object_row, link_row}
use Rattle.register.specs.Tables.{ObjectsAscend, LinksAscend, object_place, row_at}
use Rattle.chains.specs.Chains.{Chained, pushed}

-- ---- places, their keys and slots

module _ (m : ℕ) (objects links : List ℕ) where
  -- the key of a place: its role, and the row of the object from which the role goes
  abbrev pub place_key : ℕ → ℕ
  place_key p = (2 * (link_row links (p / 2)).relationship + p % 2) * 1024 + row_at m objects (near_end p (link_row links (p / 2)))

  -- the row of the object to which the role goes
  abbrev pub place_far : ℕ → ℕ
  place_far p = row_at m objects (far_end p (link_row links (p / 2)))

-- where a place stands
abbrev pub slot_at : ℕ → ℕ
slot_at p = p % 2 * 4096 + p / 2

-- slot s is that of a link of the role from the row
pub record Place (m : ℕ) (objects : List ℕ) (n : ℕ) (links : List ℕ) (role row s : ℕ) : Type 0 where
  pub place : ℕ
  pub slot_is : slot_at place ≡ s
  pub within : place < 2 * n
  pub key_is : place_key m objects links place ≡ role * 1024 + row

-- ---- the table

-- the word after a slot, and that of a key
abbrev pub next_word : List ℕ → ℕ → ℕ
next_word index s = get_or index (8192 + s) 0

abbrev pub head_word : List ℕ → ℕ → ℕ
head_word index k = get_or index (16384 + k) 0

-- the table with one slot more: its far row, and its place at the head of its key's chain, before what was the head
abbrev pub laid : List ℕ → ℕ → ℕ → ℕ → List ℕ
laid index slot key far = pushed index slot far 8192 (16384 + key)

-- the same with both slots of a link: backward from its target, and forward from its source
abbrev pub laid_link : List ℕ → ℕ → ℕ → ℕ → ℕ → List ℕ
laid_link index link relationship source target =
    laid (laid index (4096 + link) ((relationship * 2 + 1) * 1024 + target) source) link (relationship * 2 * 1024 + source) target

-- The links can be indexed: they and the objects keep their limits, and of each link the relationship is known and "both objects present".
pub record Indexable (m : ℕ) (objects : List ℕ) (n : ℕ) (links : List ℕ) : Type 0 where
  pub few : m ≤ max_objects
  pub links_few : n ≤ max_links
  pub related : (i : ℕ) → i < n → (link_row links i).relationship < max_relationships
  pub sourced : (i : ℕ) → i < n → object_place m objects (link_row links i).source ≡ none → ⊥
  pub targeted : (i : ℕ) → i < n → object_place m objects (link_row links i).target ≡ none → ⊥

-- the table has the slots of the places from i on
pub record Slotted (m : ℕ) (objects : List ℕ) (n : ℕ) (links index : List ℕ) (i : ℕ) : Type 0 where
  pub far_is : (p : ℕ) → i ≤ p → p < 2 * n → get_or index (slot_at p) 0 ≡ place_far m objects links p
  pub chained : Chained slot_at (place_key m objects links) (2 * n) (next_word index) (head_word index) i

-- a register that is walked: its rows ascend, and the table has the slots of all its links
pub record Indexed (m : ℕ) (objects : List ℕ) (n : ℕ) (links index : List ℕ) : Type 0 where
  pub objects_ascend : ObjectsAscend m objects
  pub links_ascend : LinksAscend n links
  pub indexable : Indexable m objects n links
  pub slotted : Slotted m objects n links index 0

-- the id at the far end of the slot that a word of a chain leads to
abbrev pub far_id : List ℕ → List ℕ → ℕ → Option ℕ
far_id objects index zero = none
far_id objects index (suc s) = some (object_row objects (get_or index s 0)).id
