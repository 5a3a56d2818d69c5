-- `lexical::scan` meets its contract. The loop's invariant: the value so far and the digits from i on say, cut, what all the digits say, and they end where all do.
use Prim.Native.Nat.{◌+◌, ◌≤◌, min}
use mathlib.Core.Path.{◌≡◌}
use lib.ListN.{length, drop}
use Rattle.lexical.specs.Decimals.{digits_in, value_from, value_of, too_large}
use Rattle.lexical.proofs.scan.Given as goal

abbrev pub invariant-loop-i : goal.invariant-loop-i
invariant-loop-i l =
    (min too_large (value_from l.value (digits_in (drop l.i l.text))) ≡ min too_large (value_of (digits_in (drop l.at l.text))))
    × (l.i + length (digits_in (drop l.i l.text)) ≡ l.at + length (digits_in (drop l.at l.text)))
    × (l.value ≤ too_large)
