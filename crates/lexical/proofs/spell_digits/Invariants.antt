-- `lexical::spell_digits` meets its contract. The loop's invariant: the digits of the rest, before what the buffer has from i on, are the digits of n, and there is room for them and a sign.
use Prim.Native.Nat.{◌+◌, ◌≤◌}
use mathlib.Core.Path.{◌≡◌}
use mathlib.Core.List.{◌++◌}
use lib.ListN.{length, drop}
use Rattle.lexical.specs.Decimals.{digits_of}
use Rattle.lexical.proofs.Spelling.{lead}
use Rattle.lexical.proofs.spell_digits.Given as goal

abbrev pub invariant-loop-rest : goal.invariant-loop-rest
invariant-loop-rest l = (lead l.rest ++ drop l.i l.buffer ≡ digits_of l.n) × (length (lead l.rest) + 1 ≤ l.i) × (l.i ≤ 10) × (length l.buffer ≡ 11)

abbrev pub decreases-loop-rest : goal.decreases-loop-rest
decreases-loop-rest l = l.rest
