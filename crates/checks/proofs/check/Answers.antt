-- `checks::check` meets its contract.
use mathlib.Core.Path.{sym, ap, ◌∙◌}
use mathlib.Core.Bool.{false, ◌||◌}
use mathlib.Core.List.{[]}
use borrow.Author.Rules.{rules}
use Rattle.tables.specs.Layouts.{Sheet, book_tables, register_sheet}
use Rattle.tables.specs.Refusals.{any_overfull, any_long}
use Rattle.checks.proofs.Stages.{counts_refused, bodies_refused, rows_refused, contents_decide}
use Rattle.checks.proofs.check.Goals as goal

pub returns-then-any_overfull : goal.returns-then-any_overfull
returns-then-any_overfull c =
    let a = c.args in
    let s : Sheet = register_sheet a.sheet.now in
    sym (counts_refused c.args.n s book_tables c.args.scratch_short (sym c.any_overfull.ensures ∙ c.if-any_overfull.true))

pub returns-then-any_long : goal.returns-then-any_long
returns-then-any_long c =
    let a = c.args in
    let s : Sheet = register_sheet a.sheet.now in
    sym (bodies_refused c.args.n s book_tables c.args.scratch_short (sym c.any_overfull.ensures ∙ c.if-any_overfull.false)
    (sym c.any_long.ensures ∙ c.if-any_long.true))

pub returns-then-or : goal.returns-then-or
returns-then-or c =
    let a = c.args in
    let s : Sheet = register_sheet a.sheet.now in
    sym (rows_refused c.args.n s book_tables c.args.scratch_short (sym c.any_overfull.ensures ∙ c.if-any_overfull.false) (sym c.any_long.ensures ∙ c.if-any_long.false)
    (sym (c.or.ensures ∙ ap (λ b. b || c.args.scratch_short) c.any_broken-broken.ensures) ∙ c.if-or.true))

pub returns : goal.returns
returns c =
    let a = c.args in
    let s : Sheet = register_sheet a.sheet.now in
    c.contents.ensures
    ∙ sym (contents_decide c.args.n s book_tables c.args.scratch_short (sym c.any_overfull.ensures ∙ c.if-any_overfull.false) (sym c.any_long.ensures ∙ c.if-any_long.false)
    (sym (c.or.ensures ∙ ap (λ b. b || c.args.scratch_short) c.any_broken-broken.ensures) ∙ c.if-or.false))
