-- A body by its tokens: what an open form lacks, and what is found of the whole.
use Rattle.std.specs.Prelude.{ℕ, zero, suc, ◌+◌, ◌*◌, cond, List, [], ◌∷◌, leb, Option, Some, None}
use Rattle.std.proofs.Math.Option.{Option as Maybe, none, some, bind}
use Rattle.text.specs.Tokens.{is_word, tokens_in}
use Rattle.text.specs.Bodies.{Need, need_named, forms_in}
use Rattle.text.specs.Entries.{Entry, row, rule, body_in}
use Rattle.tokens.specs.declared.Found.{Found}
use Rattle.tokens.specs.declared.Found.TheVariants.{Begin, Item, End}

-- ---- an open form, by what it lacks: four times how many parts, and how many fields; none where the token may not stand

abbrev pub lacks_of : Need → ℕ
lacks_of n = 4 * n.parts + n.fields

abbrev pub lack_of : Maybe Need → Option ℕ
lack_of none = None
lack_of (some n) = Some (lacks_of n)

-- a form of a name, in one that lacks a part
unfoldable pub opened_by : ℕ → ℕ → Option ℕ
opened_by lacks name = cond (leb 4 lacks) (lack_of (need_named name)) None

-- a field, in one that lacks a field and no part
abbrev pub one_less : ℕ → Option ℕ
one_less zero = None
one_less (suc n) = Some n

unfoldable pub filled_by : ℕ → ℕ → Option ℕ
filled_by lacks value = cond (leb lacks 3) (cond (is_word value) (one_less lacks) None) None

-- a closed bracket, of one that lacks nothing
abbrev pub closed_by : ℕ → Option ℕ
closed_by zero = Some 0
closed_by (suc n) = None

abbrev pub lacking_after : ℕ → Found → Option ℕ
lacking_after lacks (Begin name next) = opened_by lacks name
lacking_after lacks (Item value next) = filled_by lacks value
lacking_after lacks (End next) = closed_by lacks

-- a body of so many forms, where nothing follows
abbrev pub ended_at : List ℕ → ℕ → Option ℕ
ended_at [] forms = Some forms
ended_at (b ∷ l) forms = None

-- how many forms the body of a rule has, from its place to the end of the line
unfoldable pub body_held : Maybe Entry → Option ℕ
body_held none = None
body_held (some (row s words)) = None
body_held (some (rule t body)) = Some (forms_in body)

unfoldable pub body_at : List ℕ → Option ℕ
body_at l = body_held (bind (tokens_in l) (body_in 0))
