-- `park_tables::event_lists::rule_lines` meets its contract. The invariant: the lines of the rules before `rule` are put, and are not too long.
use borrow.Author.Rules.{rules}
use Prim.Native.Nat.{◌*◌, ◌-◌, ◌≤◌}
use mathlib.Core.List.{[]}
use lib.ListN.{length}
use Rattle.tables.specs.Layouts.{book_sheet}
use Rattle.tables.specs.Columns.{book_of}
use Rattle.line_writer.specs.Put.{Put}
use Rattle.event_lines.specs.Events.{room_for_events}
use Rattle.park_tables.specs.Tables.{rule_lines}
use Rattle.park_tables.proofs.event_lists.rule_lines.Given as goal

abbrev pub invariant-loop-rule : goal.invariant-loop-rule
invariant-loop-rule l =
    let lines = rule_lines (book_of l.n (book_sheet l.sheet)) l.rule in
    (l.rule ≤ l.n.rules) × Put l.initial.out 0 lines l.out l.next × (length lines ≤ room_for_events 1792 * l.rule)
