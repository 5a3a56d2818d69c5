-- `register::floors::below_floor` meets its contract. The invariant: no cell before this one is below 0 and floored. The measure is how
-- many cells are left.
use Prim.Native.Nat.{◌-◌}
use Rattle.meaning.specs.Limits.{cell_count}
use Rattle.tables.specs.Columns.{types_of, floors_of}
use Rattle.register.proofs.Below.{NoneBelow}
use Rattle.register.proofs.floors.below_floor.Given as goal

abbrev pub invariant-loop-cell : goal.invariant-loop-cell
invariant-loop-cell l =
    NoneBelow (types_of l.type_count l.types) (floors_of l.floor_count l.floors) l.objects l.row l.t l.cell
