-- `row_sets::put` meets its contract.
use Prim.Native.Nat.{◌+◌, ◌*◌, ◌<◌}
use native.Mathlib.Omega.{arith}
use lib.ListN.{length}
use Rattle.row_sets.proofs.Growth.{self_grown, self_there, inner_grown, inner_there}
use Rattle.row_sets.proofs.put.Goals as goal

pub returns-then-v-eq-SELF : goal.returns-then-v-eq-SELF
returns-then-v-eq-SELF c =
    let a = c.args in
    let within : a.row < length a.marks.now = omega (arith, c.requires.2.self) in
    (self_grown a.marks.now a.sets.now a.row within, self_there a.marks.now a.sets.now a.row within c.if-v-eq-SELF.true)

pub returns : goal.returns
returns c =
    let a = c.args in
    let within : a.v * 1024 + a.row < length a.sets.now = omega (arith, c.requires.2.inner) in
    (inner_grown a.marks.now a.sets.now a.v a.row within, inner_there a.marks.now a.sets.now a.v a.row within c.if-v-eq-SELF.false)
