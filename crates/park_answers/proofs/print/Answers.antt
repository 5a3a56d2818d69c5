-- `park_answers::print` meets its contract.
use mathlib.Core.Path.{sym, ap, ◌∙◌}
use lib.ListN.{length}
use Rattle.rows.specs.Rows.{in_front}
use Rattle.answers.specs.Checks.{lent_sheet}
use Rattle.answers.proofs.Checking.{long_text, read_refused, read_done}
use Rattle.park_answers.specs.Prints.{park_room, tables_printed, park_prints}
use Rattle.park_answers.proofs.print.Goals as goal

pub returns-then-text-gt65536 : goal.returns-then-text-gt65536
unfolding park_prints
returns-then-text-gt65536 c =
    let a = c.args in
    let e = long_text park_room (tables_printed a.asked) a.text.now c.if-text-gt65536.true in
    (c.refuse.ensures.0 ∙ ap (λ b. in_front b a.out.now) e, c.refuse.ensures.1 ∙ ap length e)

pub returns-in-Err : goal.returns-in-Err
unfolding park_prints lent_sheet
returns-in-Err c =
    let a = c.args in
    let e = read_refused park_room (tables_printed a.asked) a.text.now c.if-text-gt65536.false (sym c.in-Err.is ∙ c.read.ensures.0) in
    (c.refuse-in-Err.ensures.0 ∙ ap (λ b. in_front b a.out.now) e, c.refuse-in-Err.ensures.1 ∙ ap length e)

pub returns-in-Ok : goal.returns-in-Ok
unfolding park_prints lent_sheet
returns-in-Ok c =
    let a = c.args in
    let e = read_done park_room (tables_printed a.asked) a.text.now c.if-text-gt65536.false (sym c.in-Ok.is ∙ c.read.ensures.0) c.read.ensures.1 in
    (c.print_tables.ensures.0 ∙ ap (λ b. in_front b a.out.now) e, c.print_tables.ensures.1 ∙ ap length e)
