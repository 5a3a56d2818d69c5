-- `selection::select` meets its contract: the pairs of the rules that were taken are marked, and the others are the bits of the word that is left.
use Prim.Native.Nat.{◌-◌}
use mathlib.Core.Path.{◌≡◌}
use lib.ListN.{length}
use Rattle.meaning.specs.Reach.{Change}
use Rattle.tables.specs.Columns.{floors_of, schema_of}
use Rattle.trace_places.specs.Traces.{Traced}
use Rattle.bits.specs.Bits.{bits_in}
use Rattle.selection.specs.Selected.{by_events, Added}
use Rattle.selection.proofs.Going.{Going}
use Rattle.selection.proofs.select.Given as goal

abbrev pub invariant-loop : goal.invariant-loop
invariant-loop l =
    (length l.marks ≡ 1024) × (length l.sets ≡ 65536)
    × ((g : Going l.n.rules (bits_in l.touched) (bits_in l.left) l.count (l.touched_rules - l.counter))
    × ((c : Change) → Traced c l.n l.sheet.types.now l.sheet.objects.now l.sheet.links.now l.sheet.events.now l.trace → c.schema ≡ schema_of l.n.types l.sheet.types.now (floors_of l.n.floors l.sheet.floors.now) l.n.relationships l.sheet.relationships.now
    → Added l.sheet.objects.now (by_events c l.sheet.rules.now l.sheet.bodies.now l.sheet.objects.now) l.n.objects g.done l.initial.marks l.marks l.count))
