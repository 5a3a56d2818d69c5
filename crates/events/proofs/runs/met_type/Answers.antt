-- `events::runs::met_type` meets its contract.
use mathlib.Core.Path.{sym, ap, ◌∙◌}
use mathlib.Core.Logic.{inl, inr}
use Rattle.tables.specs.Columns.{event_row}
use Rattle.register.specs.Tables.{objects_with}
use Rattle.tables.specs.Met.{type_in}
use Rattle.events.proofs.MetTypes.{met_named, met_unnamed, no_object, first_named}
use Rattle.events.proofs.runs.met_type.Goals as goal

pub returns-then-kind-eq3 : goal.returns-then-kind-eq3
unfolding event_row
returns-then-kind-eq3 c = λ d ls. sym (met_unnamed _ _ (no_object _ _ _ (inl (sym c.word-kind.ensures ∙ c.if-kind-eq3.true))))

pub returns-then-kind-eq4 : goal.returns-then-kind-eq4
unfolding event_row
returns-then-kind-eq4 c = λ d ls. sym (met_unnamed _ _ (no_object _ _ _ (inr (sym c.word-kind.ensures ∙ c.if-kind-eq4.true))))

pub returns : goal.returns
unfolding event_row
returns c =
    let x = c.args in
    λ d ls.
    let g = objects_with x.count x.objects.now ls in
    let kind_is = c.word-kind.ensures in
    c.type_in.ensures ls ∙ ap (type_in g) c.word.ensures
    ∙ sym (met_named g _ _ (first_named _ _ _ _ d (λ e. c.if-kind-eq3.false (kind_is ∙ e)) (λ e. c.if-kind-eq4.false (kind_is ∙ e))))
