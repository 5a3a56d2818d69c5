-- `checks::check_all` meets its contract: where the events' rows are few, the other tables decide.
use mathlib.Core.Path.{sym, ap, ◌∙◌}
use mathlib.Core.Bool.{◌||◌}
use borrow.Author.Rules.{rules}
use Rattle.tables.specs.Layouts.{Sheet, book_tables, sheet_in}
use Rattle.tables.specs.Refusals.{refusal_of, verdict_of}
use Rattle.checks.proofs.Stages.{events_refused, others_decide, without_events}
use Rattle.checks.proofs.check_all.Goals as goal

pub returns-then-too_many : goal.returns-then-too_many
returns-then-too_many c =
    sym (events_refused c.args.n (sheet_in c.args.sheet.now) c.args.scratch_short (sym c.too_many.ensures ∙ c.if-too_many.true))

pub returns : goal.returns
returns c =
    let a = c.args in
    let short = c.or-short.ensures ∙ ap (λ b. b || a.scratch_short) c.not_whole.ensures in
    c.check.ensures
    ∙ ap verdict_of
    (without_events a.n a.sheet.now.types.now a.sheet.now.floors.now a.sheet.now.relationships.now a.sheet.now.rules.now a.sheet.now.bodies.now a.sheet.now.objects.now a.sheet.now.links.now a.sheet.now.events.now _
    ∙ ap (refusal_of book_tables a.n (sheet_in c.args.sheet.now)) short
    ∙ others_decide a.n (sheet_in c.args.sheet.now) a.scratch_short (sym c.too_many.ensures ∙ c.if-too_many.false))
