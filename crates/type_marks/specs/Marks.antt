-- Document 01, "Event list of a rule": "Order: the events' order above, then numbers, none twice". An event type has a mark at the place
-- (kind · 32 + number) · 8 + cell of 1,792, so that the order of places is that order, and nothing is sorted.
use Rattle.std.specs.Prelude.{ℕ, ◌/◌, ◌%◌, ◌<◌, ◌≡◌, Bool, false, ◌||◌, List, [], ◌∷◌, length, get_or}
use Rattle.meaning.specs.Lists.{any, same_list}
use Rattle.meaning.specs.EventList.{EventType, event_type_words}

abbrev pub places : ℕ
places = 1792

-- the three words of the event type at a place
abbrev pub words_at : ℕ → List ℕ
words_at place = place / 256 ∷ place / 8 % 32 ∷ place % 8 ∷ []

-- some event type of the list stands at the place
abbrev pub marked : List EventType → ℕ → Bool
marked es place = any (λ e. same_list (event_type_words e) (words_at place)) es

-- of marks after, those before and the new ones
pub record Added (before after : List Bool) (new : ℕ → Bool) : Type 0 where
  pub long : length after ≡ length before
  pub each : (place : ℕ) → place < places → get_or after place false ≡ (get_or before place false || new place)
