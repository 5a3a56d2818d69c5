-- `trace_types::moves::put_all` meets its contract. The invariant: the sets of the types below this one are done. The measure is the types left.
use mathlib.Core.Path.{◌≡◌, ap, ◌∙◌}
use mathlib.Core.Bool.{false, ◌&&◌}
use native.Mathlib.Numerals.{add-one}
use native.Mathlib.Omega.{arith}
use lib.ListN.{get_or}
use Rattle.trace_places.specs.Making.{either_way}
use Rattle.trace_types.proofs.Moving.{truths_move, sets_more}
use Rattle.trace_types.proofs.moves.put_all.Goals as goal

pub loop-t-preserved : goal.loop-t-preserved
loop-t-preserved c =
    let a = c.args in
    let t = c.loop-t.t in
    let is : either_way (c.comes.result && get_or a.there.now t false) c.goes-loss.result
    ≡ truths_move a.kind a.z (get_or a.into.now t false) (get_or a.had.now t false) (get_or a.there.now t false) =
    λ k. either_way ((ap (λ b. b && get_or a.there.now t false) c.comes.ensures) k) (c.goes-loss.ensures k) in (
      omega (arith, c.loop-t-test.true),
      rw add-one (sets_more t c.loop-t.invariant.1 c.put.ensures is),
    )
