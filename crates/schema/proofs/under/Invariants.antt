-- `schema::under` meets its contract. The invariant: what is left of the way up decides.
use Prim.Native.Nat.{◌-◌}
use mathlib.Core.Path.{◌≡◌}
use Rattle.meaning.specs.Schema.{climbs, under}
use Rattle.tables.specs.Columns.{types_of}
use Rattle.schema.proofs.under.Given as goal

abbrev pub invariant-loop : goal.invariant-loop
invariant-loop l = under (types_of l.type_count l.types) l.t l.u ≡ climbs (types_of l.type_count l.types) (l.t - l.counter) l.at l.u
