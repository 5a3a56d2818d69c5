-- `selection::inspection::mark_context` meets its contract: of the rows below the row those are marked whose object is under the rule's context type.
use Prim.Native.Nat.{◌-◌, ◌≤◌}
use mathlib.Core.Path.{◌≡◌}
use mathlib.Core.List.{[], ◌∷◌}
use lib.ListN.{length}
use Rattle.tables.specs.Columns.{types_of}
use Rattle.selection.specs.Selected.{in_context, Added}
use Rattle.selection.proofs.inspection.mark_context.Given as goal

abbrev pub invariant-loop-row : goal.invariant-loop-row
invariant-loop-row l =
    (l.row ≤ l.n.objects) × (l.count ≤ l.row) × (length l.marks ≡ 1024)
    × Added l.objects (in_context (types_of l.n.types l.types) l.rules l.objects) l.row (l.rule ∷ []) l.initial.marks l.marks l.count
