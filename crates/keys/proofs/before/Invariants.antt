-- `keys::before` meets its contract. The loop's invariant: the answer is that of the columns from this one on.
use Prim.Native.Nat.{◌-◌}
use mathlib.Core.Path.{◌≡◌}
use Rattle.meaning.specs.Lists.{before}
use Rattle.rows.specs.Rows.{word_at}
use Rattle.keys.specs.Keys.{key_at}
use Rattle.keys.proofs.Keys.{before_from}
use Rattle.keys.proofs.before.Given as goal

abbrev pub invariant-loop-column : goal.invariant-loop-column
invariant-loop-column l = before (key_at l.t l.width l.columns l.row) l.key ≡ before_from (word_at l.t l.width l.row) l.columns l.key l.column
