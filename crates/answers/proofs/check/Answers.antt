-- `answers::check` meets its contract.
use mathlib.Core.Path.{sym, ap, ◌∙◌}
use lib.ListN.{length}
use Rattle.rows.specs.Rows.{in_front}
use Rattle.answers.specs.Checks.{check_room, lent_sheet, batch_printed, check_prints}
use Rattle.answers.proofs.Checking.{long_text, read_refused, read_done}
use Rattle.answers.proofs.check.Goals as goal

pub returns-then-text-gt8192 : goal.returns-then-text-gt8192
unfolding check_prints
returns-then-text-gt8192 c =
    let e = long_text check_room (batch_printed 2048) c.args.text.now c.if-text-gt8192.true in
    (c.refuse.ensures.0 ∙ ap (λ b. in_front b c.args.out.now) e, c.refuse.ensures.1 ∙ ap length e)

pub returns-in-Err : goal.returns-in-Err
unfolding lent_sheet check_prints
returns-in-Err c =
    let e = read_refused check_room (batch_printed 2048) c.args.text.now c.if-text-gt8192.false (sym c.in-Err.is ∙ c.read.ensures.0) in
    (c.refuse-in-Err.ensures.0 ∙ ap (λ b. in_front b c.args.out.now) e, c.refuse-in-Err.ensures.1 ∙ ap length e)

pub returns-in-Ok : goal.returns-in-Ok
unfolding lent_sheet check_prints
returns-in-Ok c =
    let e = read_done check_room (batch_printed 2048) c.args.text.now c.if-text-gt8192.false (sym c.in-Ok.is ∙ c.read.ensures.0) c.read.ensures.1 in
    (c.check_read.ensures.0 ∙ ap (λ b. in_front b c.args.out.now) e, c.check_read.ensures.1 ∙ ap length e)
