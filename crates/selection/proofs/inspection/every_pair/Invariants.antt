-- `selection::inspection::every_pair` meets its contract: the pairs of the rules below the rule are marked.
use Prim.Native.Nat.{◌-◌, ◌*◌, ◌≤◌}
use mathlib.Core.Path.{◌≡◌}
use lib.ListN.{length}
use Rattle.rows.specs.Rows.{read_rows}
use Rattle.tables.specs.Columns.{types_of}
use Rattle.selection.specs.Selected.{in_context, Added}
use Rattle.selection.proofs.inspection.every_pair.Given as goal

abbrev pub invariant-loop-rule : goal.invariant-loop-rule
invariant-loop-rule l =
    (l.rule ≤ l.n.rules) × (l.count ≤ l.rule * 1024) × (length l.marks ≡ 1024)
    × Added l.objects (in_context (types_of l.n.types l.types) l.rules l.objects) l.n.objects (read_rows (λ i. i) l.rule) l.initial.marks l.marks l.count
