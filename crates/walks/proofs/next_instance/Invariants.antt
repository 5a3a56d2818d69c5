-- `walks::next_instance` meets its contract. The loop's invariant: the rows passed have left nothing out.
use Prim.Native.Nat.{◌-◌}
use mathlib.Core.Path.{◌≡◌}
use Rattle.tables.specs.Columns.{types_of}
use Rattle.walks.specs.Walks.{instances_from}
use Rattle.walks.proofs.next_instance.Given as goal

abbrev pub invariant-loop-row : goal.invariant-loop-row
invariant-loop-row l =
    instances_from (types_of l.type_count l.types) l.objects l.object_count l.t l.from ≡ instances_from (types_of l.type_count l.types) l.objects l.object_count l.t l.row

abbrev pub decreases-loop-row : goal.decreases-loop-row
decreases-loop-row l = l.object_count - l.row
