-- `lent_run::run` meets its contract.
use mathlib.Core.Path.{sym, ap, ◌∙◌}
use Rattle.tables.specs.Layouts.{layouts, sheet_in}
use Rattle.tables.specs.Refusals.{verdict_of, refusal_of}
use Rattle.checks.proofs.Given.{clear_none}
use Rattle.lent_run.proofs.Given.{never_ran, can_run, lent_done}
use Rattle.lent_run.proofs.run.Goals as goal

pub run-requires : goal.run-requires
run-requires c =
    let x = c.args in
    let s = sheet_in x.sheet.now in
    let verdict = c.check_all.ensures ∙ ap (λ b. verdict_of (refusal_of layouts x.n s b)) c.short-too_short.ensures in
    can_run x.n s x.scratch_objects.now x.scratch_links.now (clear_none _ (sym c.in-Ok.is ∙ verdict))

pub returns-in-Err : goal.returns-in-Err
returns-in-Err c =
    let x = c.args in
    let s = sheet_in x.sheet.now in
    let verdict = c.check_all.ensures ∙ ap (λ b. verdict_of (refusal_of layouts x.n s b)) c.short-too_short.ensures in
    never_ran x.n s x.scratch_objects.now x.scratch_links.now (sym c.in-Err.is ∙ verdict) c.refused.ensures

pub returns-in-Ok : goal.returns-in-Ok
returns-in-Ok c =
    let x = c.args in
    let s = sheet_in x.sheet.now in
    let verdict = c.check_all.ensures ∙ ap (λ b. verdict_of (refusal_of layouts x.n s b)) c.short-too_short.ensures in
    lent_done x.n s x.scratch_objects.now x.scratch_links.now (clear_none _ (sym c.in-Ok.is ∙ verdict)) (c.run.ensures 0)
