-- `candidates::put_brought` meets its contract.
use mathlib.Core.Path.{ap₂, ◌∙◌}
use mathlib.Core.Logic.{⊎_elim}
use mathlib.Core.Bool.{◌&&◌, not}
use native.Mathlib.Omega.{arith}
use Rattle.meaning.specs.Reach.{inserted, specialised}
use Rattle.walks.specs.Site.{id_in}
use Rattle.reach.proofs.Leaves.{asked_inserted, asked_specialised}
use Rattle.row_sets.proofs.Growth.{room_kept, grown_then}
use Rattle.row_sets.proofs.Tests.{one_true, both_true}
use Rattle.candidates.proofs.put_brought.Goals as goal

pub put_if-requires-2 : goal.put_if-requires-2
put_if-requires-2 c =
    (c.requires.0, omega arith, omega arith, room_kept c.put_if.ensures.0.long c.requires.1)

pub returns : goal.returns
returns c =
    let t = c.args.context in
    let still = c.args.still in (
      grown_then c.put_if.ensures.0 c.put_if-2.ensures.0,
      λ k traced row h e.
          let u = id_in c.args.sheet.now.objects.now row in
          ⊎_elim
          (λ i.
          let (came, asks) = both_true (inserted k u t) (not still.insert) i in
          c.put_if-2.ensures.0.kept _ _ (c.put_if.ensures.1 k traced row h (ap₂ ◌&&◌ asks (asked_inserted k u t ∙ came))))
          (λ i.
          let (came, asks) = both_true (specialised k u t) (not still.special) i in
          c.put_if-2.ensures.1 k traced row h (ap₂ ◌&&◌ asks (asked_specialised k u t ∙ came)))
          (one_true (inserted k u t && not still.insert) (specialised k u t && not still.special) e),
    )
