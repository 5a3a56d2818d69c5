-- `known_events::first_unknown` meets its contract. The invariant: the events before `row` are passed.
use Prim.Native.Nat.{ℕ, ◌-◌}
use mathlib.Core.Bool.{not}
use mathlib.Core.List.{List}
use Rattle.meaning.specs.Schema.{Floor}
use Rattle.meaning.specs.Events.{known_event}
use Rattle.tables.specs.Columns.{schema_of, event_row}
use Rattle.schema.proofs.Scan.{Passed}
use Rattle.known_events.proofs.first_unknown.Given as goal

abbrev pub invariant-loop-row : goal.invariant-loop-row
invariant-loop-row l =
    (types : List ℕ) (fs : List Floor) (relationships : List ℕ) → Passed (λ m previous e. not (known_event (schema_of l.n.types types fs l.n.relationships relationships) e)) (event_row l.events) l.used l.row
