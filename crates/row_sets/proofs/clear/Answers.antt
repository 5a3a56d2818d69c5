-- `row_sets::clear` meets its contract. The loop's invariant: the rows that were passed are out of the set.
use Prim.Native.Nat.{◌<◌, ◌+◌, ◌*◌}
use mathlib.Core.Path.{◌≡◌, subst}
use mathlib.Core.List.{[]}
use native.Mathlib.Omega.{arith}
use lib.ListN.{length}
use Rattle.row_sets.specs.Sets.{sets_of, Cleared}
use Rattle.row_sets.proofs.Growth.{cleared_more}
use Rattle.row_sets.proofs.clear.Goals as goal

pub loop-row-preserved : goal.loop-row-preserved
loop-row-preserved c =
    let written : c.args.v * 1024 + c.loop-row.row < length c.loop-row.sets =
    omega (arith, c.loop-row-test.true, (c.loop-row.invariant []).long.inner, c.requires) in
    λ marks. cleared_more c.requires.0 (c.loop-row.invariant marks) written

pub returns : goal.returns
returns c =
    let all : c.loop-row.row ≡ c.args.n.objects = omega (arith, c.loop-row-test.false) in
    λ marks. subst (λ k. Cleared c.args.v k (sets_of marks c.args.sets.now) (sets_of marks c.loop-row.sets)) all (c.loop-row.invariant marks)
