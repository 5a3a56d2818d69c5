-- `event_list::list` meets its contract: a refusal of the book or the rule is the answer, and where there is none the list is written.
use mathlib.Core.Path.{sym, ◌∙◌}
use Rattle.std.proofs.lemmas.Result.{err_from_is_err_and}
use Rattle.tables.specs.Layouts.{book_sheet}
use Rattle.checks.proofs.Given.{clear_none}
use Rattle.event_list.specs.Answers.{rule_refusal}
use Rattle.event_list.proofs.Answers.{list_refused}
use Rattle.event_list.proofs.list.Goals as goal

pub list_known-requires : goal.list_known-requires
list_known-requires c =
    let a = c.args in
    clear_none (rule_refusal a.n (book_sheet a.sheet.now) a.rule) (sym c.in_ok-verdict.was ∙ c.verdict.ensures)

pub returns-in_err-verdict : goal.returns-in_err-verdict
returns-in_err-verdict c =
    let a = c.args in
    let p = err_from_is_err_and c.from_residual.result c.from_residual.ensures.1 in
    rw (p.1, p.2)
    (list_refused a.n a.sheet.now.types.now a.sheet.now.floors.now a.sheet.now.relationships.now a.sheet.now.rules.now a.sheet.now.bodies.now a.rule (sym c.in_err-verdict.was ∙ c.verdict.ensures) a.list.now)
