-- `tokens::pack` meets its contract. The loop's invariant: the value is that of the bytes from i on, and has as many digits at most.
use Prim.Native.Nat.{◌-◌, ◌^◌, ◌≤◌, ◌<◌}
use mathlib.Core.Path.{◌≡◌}
use lib.ListN.{take, drop}
use Rattle.tokens.specs.Tokens.{packed}
use Rattle.tokens.proofs.pack.Given as goal

abbrev pub invariant-loop-i : goal.invariant-loop-i
invariant-loop-i l =
    (l.at ≤ l.i) × (l.i ≤ l.end) × (l.value ≡ packed (take (l.end - l.i) (drop l.i l.line))) × (l.value < 256 ^ (l.end - l.i))
