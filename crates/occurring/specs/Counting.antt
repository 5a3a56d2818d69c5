-- Document 01, "Event list of a rule": what one event of a batch counts for, and marks of event types with those that a test adds.
use Rattle.std.specs.Prelude.{ℕ, ◌<◌, ◌≡◌, Bool, false, ◌&&◌, ◌||◌, not, cond, List, eqb, length, get_or}
use Rattle.meaning.specs.Schema.{ObjectType, under}
use Rattle.meaning.specs.Register.{Register, is_under}
use Rattle.meaning.specs.Events.{Event}
use Rattle.meaning.specs.Reach.{inserts, deletes, sets, joins, parts, specials, generals, among}
use Rattle.meaning.specs.EventList.{EventType, insert_of, delete_of, set_of, join_of, part_of, special_of, general_of, event_type_words}
use Rattle.trace_places.specs.Questions.{met_under}
use Rattle.trace_places.specs.Making.{delete_words}
use Rattle.type_marks.specs.Marks.{places, words_at}

-- "An insert, delete, special or general counts for every type it brings the object into or out of; a set counts for every type its
-- object is under at the end, with its cell; a join or part for its relationship." By the register at the end, and the type that the event met.
unfoldable pub counts : List ObjectType → Register → Event → ℕ → EventType → Bool
counts types end e met (insert_of t) = among inserts (λ id u n. under types u t) e
counts types end e met (delete_of t) = among deletes (λ id u n. met_under types met t) e
counts types end e met (set_of t k) = among sets (λ id j n. is_under types end id t && eqb j k) e
counts types end e met (join_of r) = among joins (λ n a b. eqb n r) e
counts types end e met (part_of r) = among parts (λ n a b. eqb n r) e
counts types end e met (special_of t) = among specials (λ id u n. under types u t && not (met_under types met t)) e
counts types end e met (general_of t) = among generals (λ id u n. met_under types met t && not (under types u t)) e

-- the kind as which a row is read: one that is no event is read as a delete
abbrev pub read_kind : ℕ → ℕ → ℕ
read_kind kind z = cond (delete_words kind z) 1 kind

-- of marks after, those before, and those of the event types of which the test holds
pub record Counted (before after : List Bool) (test : EventType → Bool) : Type 0 where
  pub long : length after ≡ length before
  pub each : (e : EventType) (place : ℕ) → place < places → event_type_words e ≡ words_at place → get_or after place false ≡ (get_or before place false || test e)
