-- `row_sets::put_moved` meets its contract.
use mathlib.Core.Path.{◌∙◌, ap}
use Prim.Native.Nat.{ℕ}
use mathlib.Core.Bool.{Bool, ◌&&◌}
use mathlib.Core.Logic.{⊎_elim}
use Rattle.meaning.specs.Reach.{up, down}
use Rattle.directions.specs.Sets.{has}
use Rattle.walks.specs.Site.{id_in}
use Rattle.trace_places.specs.Questions.{asked, question_of}
use Rattle.row_sets.proofs.Tests.{one_true}
use Rattle.row_sets.proofs.Growth.{room_kept, grown_then}
use Rattle.row_sets.proofs.put_moved.Goals as goal

pub put_if-requires-2 : goal.put_if-requires-2
put_if-requires-2 c =
    (c.requires.0, c.requires.2, c.requires.3, room_kept c.put_if.ensures.0.long c.requires.4)

pub returns : goal.returns
returns c =
    let first = c.put_if.ensures in
    let second = c.put_if-2.ensures in
    let a = c.args in (
      grown_then first.0 second.0,
      λ k traced row h e.
          let answered : ℕ → Bool = λ question. asked k (question_of question a.x) (id_in a.sheet.now.objects.now row) in
          ⊎_elim
          (λ t. second.0.kept _ _ (first.1 k traced row h (ap (λ b. b && answered a.gain) c.contains-up.ensures ∙ t)))
          (λ t. second.1 k traced row h (ap (λ b. b && answered a.loss) c.contains-down.ensures ∙ t))
          (one_true (has a.set up && answered a.gain) (has a.set down && answered a.loss) e),
    )
