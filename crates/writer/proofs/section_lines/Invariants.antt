-- `writer::section_lines` meets its contract. The invariant: the lines of the rows before `row` are put.
use Prim.Native.Nat.{◌≤◌}
use Rattle.tables.specs.Layouts.{sheet_in}
use Rattle.line_writer.specs.Put.{Put}
use Rattle.line_writer.specs.Lines.{line_of, lines_of}
use Rattle.writer.proofs.section_lines.Given as goal

abbrev pub invariant-loop-row : goal.invariant-loop-row
invariant-loop-row l =
    (l.row ≤ l.count) × Put l.initial.out l.at (lines_of (line_of (sheet_in l.sheet) l.section) l.row) l.out l.next
