-- `full::check_rule` meets its contract: the verdict on the question, and then the pair over the indexed register.
use mathlib.Core.Bool.{false}
use mathlib.Core.Path.{sym, ap, ◌∙◌}
use borrow.Author.Rules.{rules}
use mathlib.Core.List.{[]}
use Rattle.tables.specs.Layouts.{register_sheet}
use Rattle.full.specs.Answers.{verdict_for}
use Rattle.full_search.proofs.Given.{register_fits, can_index, zeros}
use Rattle.checks.proofs.Given.{clear_none, given}
use Rattle.full.proofs.Rules.{known_rule, clear_before, rule_refused, rule_broken, rule_accepted}
use Rattle.full.proofs.check_rule.Goals as goal

pub index-requires : goal.index-requires
index-requires c =
    let s = register_sheet c.args.sheet.now in
    let clear = given c.args.n s false (clear_none _ (clear_before _ c.args.n.rules c.args.rule (sym c.in-Ok.is ∙ c.verdict_for.ensures) ∙ c.check-verdict.ensures)) in
    let fits = register_fits c.args.n s clear in
    (fits.objects_ascend, fits.links_ascend, can_index c.args.n s clear, zeros 81920)

pub breaks_at-requires : goal.breaks_at-requires
breaks_at-requires c =
    let check = c.check-verdict in
    let asked = sym c.in-Ok.is ∙ c.verdict_for.ensures in
    (record { given = given _ _ false (clear_none _ (clear_before _ c.args.n.rules c.args.rule asked ∙ check.ensures)); indexed = c.index.ensures }, known_rule _ c.args.n.rules c.args.rule asked)

pub returns-in-Err : goal.returns-in-Err
returns-in-Err c =
    rule_refused _ _ c.args.rule c.args.id (sym c.in-Err.is ∙ c.verdict_for.ensures ∙ ap (λ v. verdict_for v c.args.n.rules c.args.rule) c.check-verdict.ensures)

pub returns-then-breaks_at : goal.returns-then-breaks_at
returns-then-breaks_at c =
    let verdict_for_lem = c.verdict_for in
    let check = c.check-verdict in
    rule_broken _ _ c.args.rule c.args.id (sym c.in-Ok.is ∙ verdict_for_lem.ensures ∙ ap (λ v. verdict_for v c.args.n.rules c.args.rule) check.ensures) c.breaks_at.ensures c.if-breaks_at.true

pub returns-else-breaks_at : goal.returns-else-breaks_at
returns-else-breaks_at c =
    let verdict_for_lem = c.verdict_for in
    let check = c.check-verdict in
    rule_accepted _ _ c.args.rule c.args.id (sym c.in-Ok.is ∙ verdict_for_lem.ensures ∙ ap (λ v. verdict_for v c.args.n.rules c.args.rule) check.ensures) c.breaks_at.ensures c.if-breaks_at.false
