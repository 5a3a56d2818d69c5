-- `event_lines::events` meets its contract. The invariant: the first i event types are put.
use Prim.Native.Nat.{◌-◌, ◌≤◌}
use Rattle.line_writer.specs.Put.{Put}
use Rattle.event_lines.specs.Events.{events_shown, event_types_in}
use Rattle.event_lines.proofs.events.Given as goal

abbrev pub invariant-loop-i : goal.invariant-loop-i
invariant-loop-i l = (l.i ≤ l.count) × Put l.initial.out l.at (events_shown (event_types_in l.list l.i)) l.out l.next
