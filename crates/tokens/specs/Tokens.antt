-- What is found at a place of a line: a name, a token, the items of a line without an inner bracket.
use Rattle.std.specs.Prelude.{ℕ, ◌+◌, ◌*◌, cond, List, [], ◌∷◌, leb, length, Option, Some, None}
use Rattle.std.proofs.Math.Option.{Option as Maybe, none, some, bind}
use Rattle.text.specs.Tokens.{Token, begin, item, end, Lexed, tokens_in}
use Rattle.text.specs.Bodies.{padded}
use Rattle.text.specs.Entries.{items_in}
use Rattle.tokens.specs.declared.Found.{Found}
use Rattle.tokens.specs.declared.Found.TheVariants.{Begin, Item, End}
use Rattle.tokens.specs.declared.ItemsFound.{ItemsFound}

-- a name's place among the names, if it is one of them
abbrev pub place_found : Maybe ℕ → Option ℕ
place_found none = None
place_found (some k) = Some k

-- a token that starts at a place, and the place after it
abbrev pub token_at : ℕ → Token → ℕ → Found
token_at at (begin k) size = Begin k (at + size)
token_at at (item v) size = Item v (at + size)
token_at at end size = End (at + size)

abbrev pub found_at : ℕ → Maybe Lexed → Option Found
found_at at none = None
found_at at (some t) = Some (token_at at t.token t.size)

-- No line without an inner bracket has more than ten items. The items that are held, and how many; none where the line is not such.
abbrev pub max_items : ℕ
max_items = 10

unfoldable pub items_held : Maybe (List ℕ) → Option ItemsFound
items_held none = None
items_held (some is) = cond (leb (length is) max_items) (Some (record { count = length is; values = padded max_items is })) None

-- the items from a place to the end of the line
unfoldable pub items_at : List ℕ → Option ItemsFound
items_at l = items_held (bind (tokens_in l) items_in)

-- bytes as one number: the digits at base 256, the first the least
unfoldable pub packed : List ℕ → ℕ
packed [] = 0
packed (b ∷ l) = b + 256 * packed l
