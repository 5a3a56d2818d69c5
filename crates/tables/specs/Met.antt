-- The type that an event's object had when the event came, as a number.
use Rattle.std.specs.Prelude.{ℕ}
use Rattle.std.proofs.Math.Option.{Option, none, some}
use Rattle.meaning.specs.Limits.{max_types}
use Rattle.meaning.specs.Register.{Object, Register, object_at}
use Rattle.meaning.specs.Events.{Event, insert, delete, set, join, part, special, general}
use Rattle.meaning.specs.Reach.{Step}

-- the object that an event names; a join and a part name a link
abbrev pub object_of : Event → Option ℕ
object_of (insert id t) = some id
object_of (delete id) = some id
object_of (set id k v) = some id
object_of (join r a b) = none
object_of (part r a b) = none
object_of (special id t) = some id
object_of (general id t) = some id

-- "number 0 to 31": one past the last stands for no type
abbrev pub no_type : ℕ
no_type = max_types

-- the type of an object, if there is one
abbrev pub type_of : Option Object → ℕ
type_of none = no_type
type_of (some o) = o.type

-- the type of the object of an id
unfoldable pub type_in : Register → ℕ → ℕ
type_in g id = type_of (object_at g id)

-- the type that the object of an event has in the register that the event meets
unfoldable pub met_type : Register → Event → ℕ
met_type g e = elim (object_of e) [ none ↦ no_type | some id ↦ type_in g id ]

abbrev pub met_by : Step → ℕ
met_by s = met_type s.met s.event
