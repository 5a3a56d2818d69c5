-- `tokens::letters_end` meets its contract. The loop's invariant: the letters from i on end where those at the place do.
use Prim.Native.Nat.{◌+◌}
use mathlib.Core.Path.{◌≡◌}
use lib.ListN.{length, drop}
use Rattle.text.specs.Names.{letters_in}
use Rattle.tokens.proofs.letters_end.Given as goal

abbrev pub invariant-loop-i : goal.invariant-loop-i
invariant-loop-i l = l.i + length (letters_in (drop l.i l.line)) ≡ l.at + length (letters_in (drop l.at l.line))
