-- `writer::text` meets its contract. The invariant: the sections before `section` are put.
use Prim.Native.Nat.{◌≤◌}
use Rattle.tables.specs.Layouts.{section_count, sheet_in}
use Rattle.line_writer.specs.Put.{Put}
use Rattle.line_writer.specs.Lines.{lines_of, section_text}
use Rattle.writer.proofs.text.Given as goal

abbrev pub invariant-loop-section : goal.invariant-loop-section
invariant-loop-section l =
    (l.section ≤ section_count) × Put l.initial.out 0 (lines_of (section_text l.n (sheet_in l.sheet)) l.section) l.out l.next
