-- When a body's form is quiet, by the code of its row: each part is asked once, for one truth.
use Rattle.std.specs.Prelude.{ℕ, ◌≡◌, Bool, not, ◌&&◌, ◌||◌, cond, List, eqb}
use Rattle.meaning.specs.Schema.{Relationship, Schema}
use Rattle.meaning.specs.Forms.{truth, Form, Rule}
use Rattle.meaning.specs.Reach.{Change, role_of_self, quietly, quiet, own_role, quiet_from, inserted, specialised}
use Rattle.tables.specs.Bodies.{Part, as_truth, as_collection}
use Rattle.quietness.specs.declared.quiet.Still.{Still}

-- the other truth, where that is asked
abbrev pub turn : Bool → Bool → Bool
turn other w = cond other (not w) w

-- and, or, implies
abbrev pub connects : ℕ → Bool
connects code = eqb code 7 || eqb code 8 || eqb code 10

abbrev pub quantifies : ℕ → Bool
quantifies code = eqb code 11 || eqb code 12

-- what two parts give: of both, or of one
abbrev pub joined : Bool → Bool → Bool → Bool
joined all a b = cond all (a && b) (a || b)

-- the roles that count: every one, or those that start at type t
abbrev pub counted : Bool → List Relationship → ℕ → ℕ → Bool
counted every relationships t r = every || own_role relationships t r

-- a part gives the truth w
abbrev pub quiet_part : (ℕ → Bool) → Part → Bool → Bool
quiet_part counts p w = quietly counts (as_truth p) w

-- a part is a role of self that counts
abbrev pub self_part : (ℕ → Bool) → Part → Bool
self_part counts p = role_of_self counts (as_collection p)

-- what selects nothing by itself, with a body and a context type: an insert, and a special
abbrev pub still_of : List Relationship → ℕ → Form truth → Still
still_of relationships t body = record { insert = quiet body; special = quiet_from relationships t body }

-- it is so of a rule, by a schema
abbrev pub StillBy : Schema → Rule → Still → Type 0
StillBy S r still = still ≡ still_of S.relationships r.context r.body

-- an insert or a special that is not still brought object u into type t
abbrev pub came_into : Change → Still → ℕ → ℕ → Bool
came_into c still t u = (inserted c u t && not still.insert) || (specialised c u t && not still.special)
