-- `line_writer::pieces::numbers` meets its contract. The invariant: the first i words are put.
use Prim.Native.Nat.{◌-◌, ◌≤◌}
use lib.ListN.{take, drop}
use Rattle.line_writer.specs.Put.{Put}
use Rattle.line_writer.specs.Lines.{spell_items}
use Rattle.line_writer.proofs.pieces.numbers.Given as goal

abbrev pub invariant-loop-i : goal.invariant-loop-i
invariant-loop-i l = (l.i ≤ l.count) × Put l.initial.out l.at (spell_items (take l.i (drop l.from l.t))) l.out l.next
