-- `fill::put_lines` meets its contract: the rows of the lines before are in the tables.
use Prim.Native.Nat.{◌-◌}
use lib.ListN.{length}
use Rattle.tables.specs.Layouts.{sheet_of}
use Rattle.filling.proofs.Filling.{Filling}
use Rattle.filling.proofs.put_lines.Given as goal

abbrev pub invariant-loop-at : goal.invariant-loop-at
invariant-loop-at l =
    Filling l.text (sheet_of l.initial.types l.initial.floors l.initial.relationships l.initial.rules l.initial.bodies l.initial.objects l.initial.links l.initial.events) l.at l.counts l.cells l.section
    (sheet_of l.types l.floors l.relationships l.rules l.bodies l.objects l.links l.events)

abbrev pub decreases-loop-at : goal.decreases-loop-at
decreases-loop-at l =
    length l.text - l.at
