-- `register::search::guesses` meets its contract. The invariant: the rows from this one on, put into the table, make the table that is promised.
use Prim.Native.Nat.{◌-◌}
use mathlib.Core.Path.{◌≡◌}
use Rattle.register.specs.Guesses.{with_guesses}
use Rattle.register.proofs.search.guesses.Given as goal

abbrev pub invariant-loop-row : goal.invariant-loop-row
invariant-loop-row l = with_guesses l.table l.objects l.row (l.object_count - l.row) ≡ with_guesses l.initial.table l.objects 0 l.object_count
