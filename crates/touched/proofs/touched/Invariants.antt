-- `touched::touched` meets its contract: the word has the bits of the touched rules that were passed.
use Prim.Native.Nat.{◌-◌, ◌≤◌}
use mathlib.Core.Path.{◌≡◌}
use Rattle.meaning.specs.Reach.{Change}
use Rattle.meaning.specs.EventList.{touched}
use Rattle.tables.specs.Columns.{rule_row, floors_of, schema_of}
use Rattle.touched.specs.Shared.{Occurring}
use Rattle.touched.proofs.Bits.{SetBelow}
use Rattle.touched.proofs.touched.Given as goal

abbrev pub invariant-loop-rule : goal.invariant-loop-rule
invariant-loop-rule l =
    (l.rule ≤ l.n.rules)
    × ((c : Change) → c.schema ≡ schema_of l.n.types l.sheet.types.now (floors_of l.n.floors l.sheet.floors.now) l.n.relationships l.sheet.relationships.now → Occurring c l.occurring → SetBelow (λ i. touched c (rule_row l.sheet.rules.now l.sheet.bodies.now i)) l.word l.rule)
