-- `touched::shared` meets its contract: no place that was passed is marked in both.
use mathlib.Core.Path.{sym, ap, ◌∙◌}
use mathlib.Core.Bool.{false, ◌&&◌, and-false}
use native.Mathlib.Omega.{arith}
use lib.ListN.{get_or}
use Rattle.type_marks.specs.Marks.{places}
use Rattle.touched.proofs.Marks.{shared_none, shared_next, shared_at}
use Rattle.touched.proofs.shared.Goals.{then-a-place+else-b-place, else-a-place}
use Rattle.touched.proofs.shared.Goals as goal

pub loop-place-init : goal.loop-place-init
loop-place-init c = (omega arith, shared_none _ _)

pub returns-then-b-place : goal.returns-then-b-place
returns-then-b-place c =
    let a = c.args in
    sym (shared_at a.a.now a.b.now c.loop-place.place places (omega arith) c.if-a-place.true c.if-b-place.true)

pub loop-place-preserved : goal.loop-place-preserved
loop-place-preserved c =
    let a = c.args.a.now in
    let b = c.args.b.now in
    let place = c.loop-place.place in (
      omega arith,
      shared_next a b place c.loop-place.invariant.1
          (elim c.if-a-place.branch [ then-a-place+else-b-place w ↦ ap (λ m. get_or a place false && m) w.if-b-place.false ∙ and-false (get_or a place false) | else-a-place w ↦ ap (λ m. m && get_or b place false) w.if-a-place.false ]),
    )
