-- `link_index::index` meets its contract. The invariant: the places from those of this row on have their slots.
use Prim.Native.Nat.{◌*◌, ◌≤◌}
use Rattle.link_index.specs.Slots.{Slotted}
use Rattle.link_index.proofs.index.Given as goal

abbrev pub invariant-loop-row : goal.invariant-loop-row
invariant-loop-row l =
    (l.row ≤ l.link_count) × Slotted l.object_count l.objects l.link_count l.links l.index (2 * l.row)
