-- `selection::rule::choose` meets its contract: of the rows below the row those are marked at which the rule is selected.
use Prim.Native.Nat.{◌-◌, ◌≤◌}
use mathlib.Core.Path.{◌≡◌}
use mathlib.Core.List.{[], ◌∷◌}
use lib.ListN.{length}
use Rattle.meaning.specs.Reach.{Change}
use Rattle.trace_places.specs.Traces.{Traced}
use Rattle.selection.specs.Selected.{by_events, Added}
use Rattle.selected.specs.Ready.{KnownBy}
use Rattle.selection.proofs.rule.choose.Given as goal

abbrev pub invariant-loop-row : goal.invariant-loop-row
invariant-loop-row l =
    (l.row ≤ l.n.objects) × (l.count ≤ l.row) × (length l.marks ≡ 1024)
    × ((c : Change) → Traced c l.n l.sheet.types.now l.sheet.objects.now l.sheet.links.now l.sheet.events.now l.trace → KnownBy c l.sheet.rules.now l.sheet.bodies.now l.rule l.floored l.still
    → Added l.sheet.objects.now (by_events c l.sheet.rules.now l.sheet.bodies.now l.sheet.objects.now) l.row (l.rule ∷ []) l.initial.marks l.marks l.count)
