-- `row_sets::put_answers` meets its contract.
use mathlib.Core.Path.{sym, ap, subst, ◌∙◌}
use mathlib.Core.Logic.{⊎_elim}
use lib.Dec.{T}
use Rattle.walks.specs.Site.{id_in}
use Rattle.trace_places.specs.Questions.{named, taken_from, asked, question_of}
use Rattle.questions.proofs.Losses.{not_taken}
use Rattle.row_sets.proofs.Tests.{one_true}
use Rattle.row_sets.proofs.Growth.{grown_then}
use Rattle.row_sets.proofs.put_answers.Goals as goal

pub returns-then-question-eq-PARTED : goal.returns-then-question-eq-PARTED
unfolding asked
returns-then-question-eq-PARTED c =
    let a = c.args in (
      grown_then c.put_named.ensures.0 c.put_lost.ensures.0,
      λ k traced row h t.
          let u = id_in a.sheet.now.objects.now row in
          let q = question_of a.question a.x in
          ⊎_elim (λ e. c.put_lost.ensures.0.kept _ _ (c.put_named.ensures.1 k traced row h e))
          (λ e. c.put_lost.ensures.1 k traced row h (ap (λ code. taken_from k (question_of code a.x) u) (sym c.if-question-eq-PARTED.true) ∙ e))
          (one_true (named k q u) (taken_from k q u) t),
    )

pub returns-else-question-eq-PARTED : goal.returns-else-question-eq-PARTED
unfolding asked
returns-else-question-eq-PARTED c =
    let a = c.args in (
      c.put_named.ensures.0,
      λ k traced row h t.
          let u = id_in a.sheet.now.objects.now row in
          let q = question_of a.question a.x in
          ⊎_elim (c.put_named.ensures.1 k traced row h)
          (λ e. absurd (subst T (sym e ∙ not_taken k a.x u a.question c.if-question-eq-PARTED.false) tt))
          (one_true (named k q u) (taken_from k q u) t),
    )
