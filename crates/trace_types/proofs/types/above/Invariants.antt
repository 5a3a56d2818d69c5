-- `trace_types::types::above` meets its contract. The invariant: the types that the walk has put, and those that are left of it, are those above t.
use Prim.Native.Nat.{◌-◌}
use mathlib.Core.Path.{◌≡◌}
use lib.ListN.{length}
use Rattle.meaning.specs.Limits.{max_types}
use Rattle.tables.specs.Columns.{types_of}
use Rattle.trace_types.proofs.Climbing.{Walked}
use Rattle.trace_types.proofs.types.above.Given as goal

abbrev pub invariant-loop : goal.invariant-loop
invariant-loop l = (length l.truths ≡ max_types) × Walked (types_of l.type_count l.types) l.t l.truths (l.t - l.counter) l.at
