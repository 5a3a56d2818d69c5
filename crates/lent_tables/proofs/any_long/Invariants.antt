-- `lent_tables::any_long` meets its contract. The invariant: a rule is long if one from `row` on is.
use Prim.Native.Nat.{◌-◌, ◌≤◌}
use mathlib.Core.Path.{◌≡◌}
use Rattle.tables.specs.Refusals.{long_body, any_long}
use Rattle.lent_tables.proofs.Counting.{passes_from}
use Rattle.lent_tables.proofs.any_long.Given as goal

abbrev pub invariant-loop-row : goal.invariant-loop-row
invariant-loop-row l = (l.row ≤ l.count) × (passes_from (long_body l.rules) l.count l.row ≡ any_long l.rules l.count)
