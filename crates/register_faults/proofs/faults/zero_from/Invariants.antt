-- `register_faults::faults::zero_from` meets its contract. The invariant: the cells passed are 0.
use Prim.Native.Nat.{◌-◌}
use mathlib.Core.Path.{◌≡◌}
use lib.ListN.{drop}
use Rattle.meaning.specs.Lists.{every}
use Rattle.meaning.specs.Limits.{cell_count}
use Rattle.meaning.specs.Register.{is_zero}
use Rattle.tables.specs.Columns.{object_row}
use Rattle.register_faults.proofs.faults.zero_from.Given as goal

abbrev pub invariant-loop-cell : goal.invariant-loop-cell
invariant-loop-cell l =
    every is_zero (drop l.cells (object_row l.objects l.row).cells) ≡ every is_zero (drop l.cell (object_row l.objects l.row).cells)
