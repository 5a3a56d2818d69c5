-- `keys::place` meets its contract. The invariant: the place lies from low to high. The measure is the distance of the two.
use Prim.Native.Nat.{◌-◌}
use Rattle.keys.specs.Keys.{key_at}
use Rattle.keys.proofs.Keys.{Bracket}
use Rattle.keys.proofs.place.Given as goal

abbrev pub invariant-loop-low : goal.invariant-loop-low
invariant-loop-low l = Bracket (key_at l.t l.width l.columns) l.count l.key l.low l.high

abbrev pub decreases-loop-low : goal.decreases-loop-low
decreases-loop-low l = l.high - l.low
