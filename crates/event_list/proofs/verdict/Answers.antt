-- `event_list::verdict` meets its contract: the book's refusals, and then a rule that it lacks.
use mathlib.Core.Path.{sym, ◌∙◌}
use Rattle.std.proofs.lemmas.Result.{err_from_is_err_and}
use Rattle.event_list.proofs.Answers.{book_refused, rule_known, rule_lacked}
use Rattle.event_list.proofs.verdict.Goals as goal

pub returns-in_err-book_verdict : goal.returns-in_err-book_verdict
returns-in_err-book_verdict c =
    let a = c.args in
    let p = err_from_is_err_and c.from_residual.result c.from_residual.ensures.1 in
    rw (p.1, p.2)
    (book_refused a.n a.sheet.now.types.now a.sheet.now.floors.now a.sheet.now.relationships.now a.sheet.now.rules.now a.sheet.now.bodies.now a.rule (sym c.in_err-book_verdict.was ∙ c.book_verdict.ensures))

pub returns-then-rule-n : goal.returns-then-rule-n
returns-then-rule-n c =
    let a = c.args in
    rule_known a.n a.sheet.now.types.now a.sheet.now.floors.now a.sheet.now.relationships.now a.sheet.now.rules.now a.sheet.now.bodies.now a.rule (sym c.in_ok-book_verdict.was ∙ c.book_verdict.ensures) c.if-rule-n.true

pub returns-else-rule-n : goal.returns-else-rule-n
returns-else-rule-n c =
    let a = c.args in
    rule_lacked a.n a.sheet.now.types.now a.sheet.now.floors.now a.sheet.now.relationships.now a.sheet.now.rules.now a.sheet.now.bodies.now a.rule (sym c.in_ok-book_verdict.was ∙ c.book_verdict.ensures) c.if-rule-n.false
