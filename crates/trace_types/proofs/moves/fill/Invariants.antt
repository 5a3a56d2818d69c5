-- `trace_types::moves::fill` meets its contract. The invariant: the events below this one are in the sets.
use Prim.Native.Nat.{◌-◌, ◌≤◌}
use mathlib.Core.List.{List}
use lib.ListN.{get_or}
use Rattle.meaning.specs.Limits.{max_types}
use Rattle.meaning.specs.Register.{Link}
use Rattle.tables.specs.Columns.{types_of, event_row}
use Rattle.register.specs.Tables.{objects_with}
use Rattle.trace_places.specs.Making.{event_moves, some_below, SetsWith}
use Rattle.trace_types.proofs.moves.fill.Given as goal

abbrev pub invariant-loop-i : goal.invariant-loop-i
invariant-loop-i l =
    (l.i ≤ l.event_count)
    × ((ls : List Link) → SetsWith l.initial.trace l.trace
    (λ t d. some_below (λ j. event_moves (types_of l.type_count l.types) (objects_with l.object_count l.objects ls) (event_row l.events j) (get_or l.met j 0) t d) l.i) max_types)
