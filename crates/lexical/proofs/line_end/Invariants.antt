-- `lexical::line_end` meets its contract. The loop's invariant: the line from i on ends where the line at the place does.
use Prim.Native.Nat.{◌+◌}
use mathlib.Core.Path.{◌≡◌}
use lib.ListN.{length, drop}
use Rattle.lexical.specs.Lines.{line_in}
use Rattle.lexical.proofs.line_end.Given as goal

abbrev pub invariant-loop-i : goal.invariant-loop-i
invariant-loop-i l = l.i + length (line_in (drop l.i l.text)) ≡ l.at + length (line_in (drop l.at l.text))
