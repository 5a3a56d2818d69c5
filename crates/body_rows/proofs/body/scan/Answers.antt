-- `body_rows::body::scan` meets its contract. The loop's invariant: the start and the mark of the form that ends before each row passed.
use Prim.Native.Nat.{zero-le}
use native.Mathlib.Omega.{arith}
use Rattle.body_rows.specs.Marks.{body_of}
use Rattle.body_rows.proofs.Kept.{kept_low, kept_parts, marked_parts, kept_none}
use Rattle.body_rows.proofs.body.scan.Goals as goal

pub loop-row-init : goal.loop-row-init
loop-row-init c = (zero-le, kept_none (body_of c.args.bodies.now c.args.rule))

pub bounds-starts-middle : goal.bounds-starts-middle
bounds-starts-middle c = omega (arith, kept_low c.loop-row.invariant.1)

pub start_at-start-requires : goal.start_at-start-requires
start_at-start-requires c = let p = kept_parts c.loop-row.invariant.1 in (omega arith, p.0, p.1)

pub bounds-marks-middle : goal.bounds-marks-middle
bounds-marks-middle c = omega (arith, kept_low c.loop-row.invariant.1)

pub mark_at-mark-requires : goal.mark_at-mark-requires
mark_at-mark-requires c = let p = marked_parts c.loop-row.invariant.1 in (omega arith, p.0, p.1)
