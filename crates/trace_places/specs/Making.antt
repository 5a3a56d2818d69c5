-- How the trace of a batch is made: its places from the last to the first, each at the head of the chain of its row.
use Rattle.std.specs.Prelude.{ℕ, zero, suc, ◌+◌, ◌*◌, ◌≤◌, ◌<◌, ◌≡◌, Bool, true, false, ◌&&◌, ◌||◌, not, List, eqb, get_or, set}
use Rattle.meaning.specs.Limits.{max_types, max_objects, max_events}
use Rattle.meaning.specs.Register.{Object, Register, is_under, has_link}
use Rattle.meaning.specs.Schema.{ObjectType, under}
use Rattle.meaning.specs.Events.{Event, join, link_of}
use Rattle.meaning.specs.Reach.{inserts, deletes, specials, generals, among, Direction, up, down}
use Rattle.rows.specs.Rows.{word_at}
use Rattle.tables.specs.Columns.{event_row}
use Rattle.tables.specs.Losses.{LossesLow}
use Rattle.tables.specs.declared.Counts.{Counts}
use Rattle.register.specs.Tables.{ObjectsAscend, LinksAscend, links_with}
use Rattle.chains.specs.Chains.{Chained, pushed}
use Rattle.directions.specs.Sets.{has}
use Rattle.trace_places.specs.Questions.{met_under}
use Rattle.trace_places.specs.Traces.{place_row, next_place, first_place, there_word, met_word, all_set, next_loss, loss_role, first_loss, loss_slot, row_lost, loss_row, itself}

-- the table with a place, that names the row, at the head of the row's chain; what was the head is next
abbrev pub placed : List ℕ → ℕ → ℕ → List ℕ
placed trace p row = pushed trace p row 512 (14625 + 2 * row)

-- both places of event i, the second before the first
abbrev pub placed_event : ℕ → List ℕ → List ℕ → ℕ → List ℕ → List ℕ
placed_event m objects events i trace =
    placed (placed trace (2 * i + 1) (place_row m objects events (2 * i + 1))) (2 * i) (place_row m objects events (2 * i))

-- The places of a batch from i on have their rows and chains; the columns between are those of another table.
pub record Placed (m : ℕ) (objects events : List ℕ) (places : ℕ) (before trace : List ℕ) (i : ℕ) : Type 0 where
  pub row_is : (p : ℕ) → i ≤ p → p < places → get_or trace p 0 ≡ place_row m objects events p
  pub chained : Chained itself (place_row m objects events) places (next_place trace) (first_place trace) i
  pub kept : (k : ℕ) → 1024 ≤ k → k < 1568 → get_or trace k 0 ≡ get_or before k 0
  pub no_loss : (row : ℕ) → first_loss trace row ≡ first_loss before row

-- ---- what is kept of each event

-- the table with, of event i, whether the link that it joins is there at the end, and the type that it met
abbrev pub kept_event : List ℕ → ℕ → ℕ → ℕ → List ℕ
kept_event trace i there met = set (set trace (1024 + i) there) (1280 + i) met

-- that is kept of the events below i; the other columns are those of another table
pub record Kept (m : ℕ) (links events met : List ℕ) (before trace : List ℕ) (i : ℕ) : Type 0 where
  pub there_is : (j : ℕ) → j < i → (os : List Object) (r a b : ℕ) → event_row events j ≡ join r a b → eqb (there_word trace j) 1 ≡ has_link (links_with os m links) (link_of r a b)
  pub met_is : (j : ℕ) → j < i → met_word trace j ≡ get_or met j 0
  pub below : (k : ℕ) → k < 1024 → get_or trace k 0 ≡ get_or before k 0
  pub above : (k : ℕ) → 1536 ≤ k → get_or trace k 0 ≡ get_or before k 0

-- ---- the losses

-- the table with a loss, of an object's row and a role, at the head of the row's chain
abbrev pub loss_put : List ℕ → ℕ → ℕ → ℕ → List ℕ
loss_put trace j row role = set (pushed trace (loss_slot j) row 4352 (14626 + 2 * row)) (10272 + j) role

-- The losses of a batch from i on have their rows, roles and chains; the columns of the events are those of another table.
pub record LossesPut (m : ℕ) (objects losses : List ℕ) (count : ℕ) (before trace : List ℕ) (i : ℕ) : Type 0 where
  pub row_is : (j : ℕ) → i ≤ j → j < count → row_lost trace j ≡ loss_row m objects losses j
  pub role_is : (j : ℕ) → i ≤ j → j < count → loss_role trace j ≡ word_at losses 2 j 0
  pub chained : Chained loss_slot (loss_row m objects losses) count (next_loss trace) (first_loss trace) i
  pub below : (k : ℕ) → k < 1568 → get_or trace k 0 ≡ get_or before k 0
  pub first_kept : (row : ℕ) → first_place trace row ≡ first_place before row

-- ---- the types that objects come into or go out of

-- a truth for each type
pub record ForTypes (truths : List Bool) (test : ℕ → Bool) : Type 0 where
  pub each : (t : ℕ) → t < max_types → get_or truths t false ≡ test t

-- an event brings its object, one of which `whom` holds, into t; it takes its object out of t; by the type that it met
module _ (types : List ObjectType) (e : Event) (met t : ℕ) where
  unfoldable pub comes_into : (ℕ → Bool) → Bool
  comes_into whom =
      among inserts (λ id u n. whom id && under types u t) e || among specials (λ id u n. whom id && (under types u t && not (met_under types met t))) e

  unfoldable pub goes_from : Bool
  goes_from = among deletes (λ id u n. met_under types met t) e || among generals (λ id u n. met_under types met t && not (under types u t)) e

-- whether a row is read as a delete, by its kind and its last field: a row that is no event is read as one
abbrev pub delete_words : ℕ → ℕ → Bool
delete_words zero z = not (eqb z 0)
delete_words (suc zero) z = true
delete_words (suc (suc zero)) z = false
delete_words (suc (suc (suc zero))) z = false
delete_words (suc (suc (suc (suc zero)))) z = false
delete_words (suc (suc (suc (suc (suc zero))))) z = not (eqb z 0)
delete_words (suc (suc (suc (suc (suc (suc zero)))))) z = not (eqb z 0)
delete_words (suc (suc (suc (suc (suc (suc (suc k))))))) z = true

-- the same by a row's kind and last field, and by whether the type that it names is under t, and the one that it met was
abbrev pub comes_by : ℕ → ℕ → Bool → Bool → Bool
comes_by kind z into had = (eqb 0 kind && (eqb z 0 && into)) || (eqb 5 kind && (eqb z 0 && (into && not had)))

abbrev pub goes_by : ℕ → ℕ → Bool → Bool → Bool
goes_by kind z into had = (delete_words kind z && had) || (eqb 6 kind && (eqb z 0 && (had && not into)))

-- ---- the directions in which all objects of a type move

-- a gain or a loss
abbrev pub either_way : Bool → Bool → Direction → Bool
either_way gain loss up = gain
either_way gain loss down = loss

-- an event brings an object that is under t at the end into t, or takes one out
abbrev pub event_moves : List ObjectType → Register → Event → ℕ → ℕ → Direction → Bool
event_moves types g e met t = either_way (comes_into types e met t (λ x. is_under types g x t)) (goes_from types e met t)

-- one of the first n
abbrev pub some_below : (ℕ → Bool) → ℕ → Bool
some_below so zero = false
some_below so (suc n) = some_below so n || so n

-- the set of type t has directions besides; every other word is as it was
pub record SetWith (before after : List ℕ) (t : ℕ) (moved : Direction → Bool) : Type 0 where
  pub set_is : (d : Direction) → has (all_set after t) d ≡ (has (all_set before t) d || moved d)
  pub small : all_set after t < 4
  pub other : (k : ℕ) → (k ≡ 1536 + t → ⊥) → get_or after k 0 ≡ get_or before k 0

-- so have the sets of the types below n
pub record SetsWith (before after : List ℕ) (moved : ℕ → Direction → Bool) (n : ℕ) : Type 0 where
  pub sets_are : (t : ℕ) → t < n → (d : Direction) → has (all_set after t) d ≡ (has (all_set before t) d || moved t d)
  pub small : (t : ℕ) → all_set before t < 4 → all_set after t < 4
  pub below : (k : ℕ) → k < 1536 → get_or after k 0 ≡ get_or before k 0
  pub above : (k : ℕ) → 1536 + n ≤ k → get_or after k 0 ≡ get_or before k 0

-- ---- the whole trace

-- What it asks: the register at the end in order and within its limits, of each event a type that it met or none, losses as deletes write them, and a table
-- of zeros.
pub record CanTrace (n : Counts) (objects links met : List ℕ) (count : ℕ) (losses trace : List ℕ) : Type 0 where
  pub objects_ascend : ObjectsAscend n.objects objects
  pub links_ascend : LinksAscend n.links links
  pub objects_few : n.objects ≤ max_objects
  pub events_few : n.events ≤ max_events
  pub met_low : (i : ℕ) → i < n.events → get_or met i 0 ≤ max_types
  pub losses_few : count ≤ 4352
  pub losses_low : LossesLow losses count
  pub empty : (k : ℕ) → get_or trace k 0 ≡ 0
