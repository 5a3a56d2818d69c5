-- `body_rows::body::scan` meets its contract. The loop's invariant: the start and the mark of the form that ends before each row passed.
use Prim.Native.Nat.{◌-◌, ◌≤◌}
use Rattle.body_rows.specs.Marks.{body_of}
use Rattle.body_rows.proofs.Kept.{Kept}
use Rattle.body_rows.proofs.body.scan.Given as goal

abbrev pub invariant-loop-row : goal.invariant-loop-row
invariant-loop-row l = (l.row ≤ l.n) × Kept (body_of l.bodies l.rule) l.starts l.marks l.row
