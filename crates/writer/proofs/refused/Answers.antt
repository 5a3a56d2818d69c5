-- `writer::refused` meets its contract, by the laws of Refusals.
use mathlib.Core.Path.{sym, ◌∙◌}
use Rattle.std.proofs.lemmas.Result.{err_from_is_err_and}
use Rattle.tables.specs.Layouts.{Sheet, sheet_in}
use Rattle.writer.proofs.Refusals.{tables_refused, event_refused, none_refused}
use Rattle.writer.proofs.refused.Goals as goal

pub returns-in_err-check_all : goal.returns-in_err-check_all
returns-in_err-check_all c =
    let a = c.args in
    let s : Sheet = sheet_in a.sheet.now in
    let p = err_from_is_err_and c.from_residual.result c.from_residual.ensures.1 in
    rw (p.1, p.2) (tables_refused a.n s (sym c.in_err-check_all.was ∙ c.check_all.ensures))

pub returns-in-Some : goal.returns-in-Some
returns-in-Some c =
    let a = c.args in
    let s : Sheet = sheet_in a.sheet.now in
    event_refused a.n s (sym c.in_ok-check_all.was ∙ c.check_all.ensures)
    (sym c.in-Some.is ∙ c.first_unknown.ensures a.sheet.now.types.now a.sheet.now.floors.now a.sheet.now.relationships.now a.sheet.now.rules.now a.sheet.now.bodies.now a.sheet.now.objects.now a.sheet.now.links.now)

pub returns-in-None : goal.returns-in-None
returns-in-None c =
    let a = c.args in
    let s : Sheet = sheet_in a.sheet.now in
    none_refused a.n s (sym c.in_ok-check_all.was ∙ c.check_all.ensures)
    (sym c.in-None.is ∙ c.first_unknown.ensures a.sheet.now.types.now a.sheet.now.floors.now a.sheet.now.relationships.now a.sheet.now.rules.now a.sheet.now.bodies.now a.sheet.now.objects.now a.sheet.now.links.now)
