-- `park_tables::event_lists::print_events` meets its contract.
use mathlib.Core.Path.{sym, ap, ◌∙◌}
use mathlib.Core.List.{[]}
use native.Mathlib.Omega.{arith}
use borrow.Author.Rules.{rules}
use lib.ListN.{length}
use Rattle.rows.specs.Rows.{in_front}
use Rattle.tables.specs.Layouts.{Sheet, book_sheet}
use Rattle.tables.specs.Columns.{book_of}
use Rattle.checks.proofs.Given.{clear_none}
use Rattle.event_list.specs.Answers.{lent_book_refusal}
use Rattle.event_list.proofs.Answers.{few_rules}
use Rattle.line_writer.proofs.Puts.{put_as}
use Rattle.printing.proofs.Lines.{put_front}
use Rattle.park_tables.specs.Tables.{rule_lines, events_printed}
use Rattle.park_tables.proofs.Refusals.{verdict_refused, verdict_clear}
use Rattle.park_tables.proofs.event_lists.print_events.Goals as goal

pub rule_lines-requires : goal.rule_lines-requires
rule_lines-requires c =
    clear_none (lent_book_refusal c.args.n (book_sheet c.args.sheet.now)) (sym c.in-Ok.is ∙ c.book_verdict.ensures)

pub returns-in-Err : goal.returns-in-Err
unfolding events_printed
returns-in-Err c =
    let a = c.args in
    let e = verdict_refused (rule_lines (book_of a.n (book_sheet c.args.sheet.now)) a.n.rules) (lent_book_refusal a.n (book_sheet c.args.sheet.now)) (sym c.in-Err.is ∙ c.book_verdict.ensures) in
    (c.refuse.ensures.0 ∙ ap (λ b. in_front b a.out.now) e, c.refuse.ensures.1 ∙ ap length e)

pub returns-in-Ok : goal.returns-in-Ok
unfolding events_printed
returns-in-Ok c =
    let a = c.args in
    let lines = c.rule_lines.ensures in
    let clear = clear_none (lent_book_refusal a.n (book_sheet c.args.sheet.now)) (sym c.in-Ok.is ∙ c.book_verdict.ensures) in
    let e = verdict_clear (rule_lines (book_of a.n (book_sheet c.args.sheet.now)) a.n.rules) (lent_book_refusal a.n (book_sheet c.args.sheet.now)) clear in
    let few = few_rules a.n a.sheet.now.types.now a.sheet.now.floors.now a.sheet.now.relationships.now a.sheet.now.rules.now a.sheet.now.bodies.now clear in
    put_front (put_as lines.0 e) (omega (arith, few, lines.1, c.requires, ap length e))
