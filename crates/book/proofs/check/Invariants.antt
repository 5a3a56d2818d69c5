-- `book::check` meets its contract. The loop's invariant: no rule before this one is faulty.
use Prim.Native.Nat.{◌-◌}
use mathlib.Core.List.{List}
use Rattle.meaning.specs.Schema.{Floor}
use Rattle.meaning.specs.Forms.{faulty_rule}
use Rattle.tables.specs.Columns.{rule_row, schema_of}
use Rattle.schema.proofs.Scan.{Passed}
use Rattle.book.proofs.check.Given as goal

abbrev pub invariant-loop-rule : goal.invariant-loop-rule
invariant-loop-rule l =
    (fs : List Floor) → Passed (faulty_rule (schema_of l.type_count l.types fs l.relationship_count l.relationships)) (rule_row l.rules l.bodies) l.rule_count l.rule
