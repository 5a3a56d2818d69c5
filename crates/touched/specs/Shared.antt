-- Document 01: "The rules a batch touches": a rule is touched where its marks and those of the batch share one.
use Rattle.std.specs.Prelude.{ℕ, zero, suc, ◌<◌, ◌≡◌, Bool, false, ◌&&◌, ◌||◌, List, get_or}
use Rattle.meaning.specs.Reach.{Change}
use Rattle.meaning.specs.EventList.{EventType, event_type_words, occurs}
use Rattle.type_marks.specs.Marks.{places, words_at}

-- some place below the end is marked in both
unfoldable pub shared_below : List Bool → List Bool → ℕ → Bool
shared_below a b zero = false
shared_below a b (suc place) = shared_below a b place || (get_or a place false && get_or b place false)

-- the mark at the place of an event type says whether it occurs in the batch
abbrev pub Occurring : Change → List Bool → Type 0
Occurring c marks = (e : EventType) (place : ℕ) → place < places → event_type_words e ≡ words_at place → get_or marks place false ≡ occurs c e
