-- `printing::outcome::pair_lines` meets its contract. The invariant: the lines of the first i pairs are put.
use Prim.Native.Nat.{◌-◌, ◌≤◌}
use Rattle.line_writer.specs.Put.{Put}
use Rattle.printing.specs.Printed.{pair_lines, pairs_in}
use Rattle.printing.proofs.outcome.pair_lines.Given as goal

abbrev pub invariant-loop-i : goal.invariant-loop-i
invariant-loop-i l = (l.i ≤ l.pairs) × Put l.initial.out l.at (pair_lines (pairs_in l.list l.i)) l.out l.next
