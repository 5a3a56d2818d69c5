-- `checks::contents` meets its contract, stage by stage.
use mathlib.Core.Path.{sym, ap, ◌∙◌}
use mathlib.Core.List.{[]}
use Rattle.std.proofs.lemmas.Result.{err_from_is_err_and}
use Rattle.tables.specs.Layouts.{Sheet, register_sheet}
use Rattle.tables.specs.Columns.{floors_of}
use Rattle.checks.specs.Stages.{refused_at}
use Rattle.checks.proofs.Stages.{types_refused, rules_refused, rows_decide}
use Rattle.checks.proofs.contents.Goals as goal

pub returns-in_err-refuse : goal.returns-in_err-refuse
returns-in_err-refuse c =
    let a = c.args in
    let s : Sheet = register_sheet a.sheet.now in
    let p = err_from_is_err_and c.from_residual.result c.from_residual.ensures.1 in
    rw (p.1, p.2) (types_refused a.n s (sym c.in_err-refuse.was ∙ c.refuse.ensures ∙ ap (refused_at 3) c.check-schema.ensures))

pub returns-in_err-refuse-2 : goal.returns-in_err-refuse-2
returns-in_err-refuse-2 c =
    let a = c.args in
    let s : Sheet = register_sheet a.sheet.now in
    let p = err_from_is_err_and c.from_residual-in_err-refuse-2.result c.from_residual-in_err-refuse-2.ensures.1 in
    rw (p.1, p.2)
    (rules_refused a.n s (sym c.in_ok-refuse.was ∙ c.refuse.ensures ∙ ap (refused_at 3) c.check-schema.ensures)
    (sym c.in_err-refuse-2.was ∙ c.refuse-2.ensures ∙ ap (refused_at 4) (c.check-book.ensures (floors_of a.n.floors a.sheet.now.floors.now))))

pub returns : goal.returns
returns c =
    let a = c.args in
    let s : Sheet = register_sheet a.sheet.now in
    c.refuse-3.ensures ∙ ap (refused_at 5) c.check-register.ensures
    ∙ rows_decide a.n s (sym c.in_ok-refuse.was ∙ c.refuse.ensures ∙ ap (refused_at 3) c.check-schema.ensures)
    (sym c.in_ok-refuse-2.was ∙ c.refuse-2.ensures ∙ ap (refused_at 4) (c.check-book.ensures (floors_of a.n.floors a.sheet.now.floors.now)))
