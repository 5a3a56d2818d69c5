-- `park_tables::print_full` meets its contract.
use mathlib.Core.Path.{ap, ◌∙◌}
use mathlib.Core.List.{[]}
use lib.ListN.{length}
use Rattle.rows.specs.Rows.{in_front}
use Rattle.tables.specs.Layouts.{register_sheet}
use Rattle.full.specs.Answers.{lent_answer}
use Rattle.printing.specs.Printed.{printed, meant}
use Rattle.printing.proofs.Printed.{meant_back}
use Rattle.park_tables.specs.Tables.{full_printed}
use borrow.Author.Rules.{rules}
use Rattle.park_tables.proofs.print_full.Goals as goal

pub returns : goal.returns
unfolding full_printed
returns c =
    let a = c.args in
    let s = register_sheet a.sheet.now in
    let e = ap (λ a. printed a []) (ap meant c.check-answer.ensures ∙ meant_back (lent_answer a.n s)) in
    (c.print.ensures.0 ∙ ap (λ b. in_front b a.out.now) e, c.print.ensures.1 ∙ ap length e)
