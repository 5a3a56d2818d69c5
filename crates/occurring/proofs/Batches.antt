-- The event types that occur in a batch, by what its events count for.
use Prim.Native.Nat.{ℕ, suc}
use mathlib.Core.Path.{◌≡◌, refl, sym, ap, ◌∙◌}
use mathlib.Core.Bool.{Bool, ◌&&◌, not}
use mathlib.Core.List.{List}
use mathlib.Core.Option.{some}
use lib.Dec.{eqb}
use lib.ListN.{get_or, get_elem?}
use Rattle.meaning.specs.Schema.{ObjectType, under}
use Rattle.meaning.specs.Register.{Link, is_under}
use Rattle.meaning.specs.Reach.{Step, Change, some_step, deletes, joins, parts, specials, generals, among, sets_cell, inserts_into, specialises_into, deletes_from, generalises_from, anyone}
use Rattle.meaning.specs.EventList.{EventType, insert_of, delete_of, set_of, join_of, part_of, special_of, general_of, occurs}
use Rattle.rows.specs.Rows.{read_rows}
use Rattle.tables.specs.Columns.{types_of, link_row, event_row}
use Rattle.tables.specs.declared.Counts.{Counts}
use Rattle.register.specs.Tables.{objects_with}
use Rattle.tables.specs.Met.{object_of}
use Rattle.trace_places.specs.Questions.{met_under}
use Rattle.trace_places.specs.Traces.{Seen}
use Rattle.trace_places.specs.Making.{some_below}
use Rattle.trace_places.proofs.Questions.{objects_same}
use Rattle.trace_places.proofs.Steps.{step_event, some_step_lem}
use Rattle.occurring.specs.Counting.{counts, Counted}
use Rattle.occurring.proofs.Counts.{counted_none, counted_then, counted_as}

module _ {c : Change} {n : Counts} {types objects links events : List ℕ} {met : ℕ → ℕ} (seen : Seen c n types objects links events met) where
  abbrev ts : List ObjectType
  ts = c.schema.types

  -- what a step counts for
  module _ (i : ℕ) (s : Step) (at : get_elem? c.steps i ≡ some s) where
    -- an event of an object, by whether its object was under t when it came
    met_same : (t id : ℕ) → object_of s.event ≡ some id → is_under ts s.met id t ≡ met_under ts (met i) t
    met_same t id q = seen.met_is i s at id t q

    step_deletes : (t : ℕ) → deletes_from ts t anyone s ≡ counts ts c.end s.event (met i) (delete_of t)
    unfolding counts
    step_deletes t = objects_same deletes (λ id u z. is_under ts s.met id t) (λ id u z. met_under ts (met i) t) refl refl s.event (λ id u z q. met_same t id q)

    step_specials : (t : ℕ) → specialises_into ts t anyone s ≡ counts ts c.end s.event (met i) (special_of t)
    unfolding counts
    step_specials t =
        objects_same specials (λ id u z. under ts u t && not (is_under ts s.met id t)) (λ id u z. under ts u t && not (met_under ts (met i) t)) refl refl s.event
        (λ id u z q. ap (λ b. under ts u t && not b) (met_same t id q))

    step_generals : (t : ℕ) → generalises_from ts t anyone s ≡ counts ts c.end s.event (met i) (general_of t)
    unfolding counts
    step_generals t =
        objects_same generals (λ id u z. is_under ts s.met id t && not (under ts u t)) (λ id u z. met_under ts (met i) t && not (under ts u t)) refl refl s.event
        (λ id u z q. ap (λ b. b && not (under ts u t)) (met_same t id q))

  -- some step does what counts for e
  some_counts : (e : EventType) (did : Step → Bool) → ((i : ℕ) (s : Step) → get_elem? c.steps i ≡ some s → did s ≡ counts ts c.end s.event (met i) e)
      → some_step c did ≡ some_below (λ i. counts ts c.end (event_row events i) (met i) e) n.events
  some_counts e did same =
      some_step_lem seen did (λ i. counts ts c.end (event_row events i) (met i) e) (λ i s at. same i s at ∙ ap (λ v. counts ts c.end v (met i) e) (step_event seen i s at))

  -- "A listed event type occurs when an event of its kind in the batch counts for what it names."
  occurs_below : (e : EventType) → occurs c e ≡ some_below (λ i. counts ts c.end (event_row events i) (met i) e) n.events
  unfolding occurs counts
  occurs_below (insert_of t) = some_counts (insert_of t) (inserts_into ts t anyone) (λ i s at. refl)
  occurs_below (delete_of t) = some_counts (delete_of t) (deletes_from ts t anyone) (λ i s at. step_deletes i s at t)
  occurs_below (set_of t k) = some_counts (set_of t k) (sets_cell (λ x. is_under ts c.end x t) k) (λ i s at. refl)
  occurs_below (join_of r) = some_counts (join_of r) (λ s. among joins (λ n a b. eqb n r) s.event) (λ i s at. refl)
  occurs_below (part_of r) = some_counts (part_of r) (λ s. among parts (λ n a b. eqb n r) s.event) (λ i s at. refl)
  occurs_below (special_of t) = some_counts (special_of t) (specialises_into ts t anyone) (λ i s at. step_specials i s at t)
  occurs_below (general_of t) = some_counts (general_of t) (generalises_from ts t anyone) (λ i s at. step_generals i s at t)

-- ---- marks, event by event

module _ (type_count : ℕ) (types : List ℕ) (object_count : ℕ) (objects events met : List ℕ) where
  -- what event i counts for
  abbrev pub event_counts : List Link → EventType → ℕ → Bool
  event_counts ls e i = counts (types_of type_count types) (objects_with object_count objects ls) (event_row events i) (get_or met i 0) e

  -- the marks of the events below i
  pub record CountedTo (before marks : List Bool) (i : ℕ) : Type 0 where
    pub counted : (ls : List Link) → Counted before marks (λ e. some_below (event_counts ls e) i)

  pub none_counted : (marks : List Bool) → CountedTo marks marks 0
  none_counted marks = record { counted = λ ls. counted_none marks _ (λ e. refl) }

  pub one_counted : {before marks more : List Bool} (i : ℕ) → CountedTo before marks i
      → ((ls : List Link) → Counted marks more (counts (types_of type_count types) (objects_with object_count objects ls) (event_row events i) (get_or met i 0))) → CountedTo before more (suc i)
  one_counted i b own = record { counted = λ ls. counted_then (b.counted ls) (own ls) }

-- those of all events are of the event types that occur
pub all_counted : (n : Counts) (types objects events met : List ℕ) {before after : List Bool} → CountedTo n.types types n.objects objects events met before after n.events
    → (c : Change) (links : List ℕ) → Seen c n types objects links events (λ i. get_or met i 0) → Counted before after (occurs c)
all_counted n types objects events met b c links seen =
    counted_as (b.counted (read_rows (link_row links) n.links))
    (λ e. (λ k. some_below (λ i. counts (sym seen.types_are k) (sym seen.end_is k) (event_row events i) (get_or met i 0) e) n.events) ∙ sym (occurs_below seen e))
