-- `occurring::put_types` meets its contract. The invariant: the types below this one are marked.
use Prim.Native.Nat.{◌-◌, ◌≤◌}
use Rattle.meaning.specs.Limits.{max_types}
use Rattle.type_marks.specs.Marks.{Added}
use Rattle.occurring.proofs.Types.{but_not, marked_to}
use Rattle.occurring.proofs.put_types.Given as goal

abbrev pub invariant-loop-t : goal.invariant-loop-t
invariant-loop-t l =
    (l.t ≤ max_types) × Added l.initial.marks l.marks (marked_to l.kind l.cell (but_not l.these l.except) l.t)
