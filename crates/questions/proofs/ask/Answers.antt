-- `questions::ask` meets its contract: an event that names the object answers, or a delete that took a link of it.
use mathlib.Core.Path.{sym, ap, ap₂, ◌∙◌}
use mathlib.Core.Bool.{◌||◌}
use Rattle.walks.specs.Site.{id_in}
use Rattle.trace_places.specs.Questions.{taken_from, asked, question_of}
use Rattle.questions.proofs.Losses.{not_taken}
use Rattle.questions.proofs.ask.Goals as goal

pub returns-then-named : goal.returns-then-named
unfolding asked
returns-then-named c =
    let a = c.args in
    λ k follows.
    ap (λ b. b || taken_from k (question_of a.question a.x) (id_in a.sheet.now.objects.now a.row)) (sym c.if-named.true ∙ c.named.ensures k follows)

pub returns-then-question-ne-PARTED : goal.returns-then-question-ne-PARTED
unfolding asked
returns-then-question-ne-PARTED c =
    let a = c.args in
    λ k follows.
    sym (ap₂ ◌||◌ (sym (c.named.ensures k follows) ∙ c.if-named.false)
    (not_taken k a.x (id_in a.sheet.now.objects.now a.row) a.question c.if-question-ne-PARTED.true))

pub returns : goal.returns
unfolding asked
returns c =
    let a = c.args in
    λ k follows.
    c.lost.ensures k follows
    ∙ sym (ap₂ ◌||◌ (sym (c.named.ensures k follows) ∙ c.if-named.false) (ap (λ q. taken_from k (question_of q a.x) (id_in a.sheet.now.objects.now a.row)) c.if-question-ne-PARTED.false))
