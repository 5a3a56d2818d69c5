-- `park_tables::left::print_text` meets its contract.
use mathlib.Core.Path.{sym, ap, ◌∙◌}
use mathlib.Core.List.{[]}
use lib.ListN.{length}
use Rattle.rows.specs.Rows.{in_front}
use Rattle.tables.specs.Layouts.{Sheet, register_sheet}
use Rattle.text.specs.Texts.{max_text}
use Rattle.text.specs.Sheets.{text_of}
use Rattle.writer.specs.Answers.{writer_refusal, write_answer, bytes_after}
use Rattle.park_tables.specs.Tables.{text_printed}
use Rattle.park_tables.proofs.Refusals.{write_refused, write_done}
use Rattle.park_tables.proofs.Texts.{room_enough}
use borrow.Author.Rules.{rules}
use Rattle.park_tables.proofs.left.print_text.Goals as goal

pub returns-in-Err : goal.returns-in-Err
unfolding text_printed
returns-in-Err c =
    let a = c.args in
    let refusal = room_enough a.n (register_sheet c.args.sheet.now) (length a.out.now) c.requires in
    let text = text_of a.n (register_sheet c.args.sheet.now) in
    let r = write_refused text a.out.now (writer_refusal a.n (register_sheet c.args.sheet.now) max_text) (sym c.in-Err.is ∙ c.write.ensures.0 ∙ ap (λ o. write_answer o (length text)) refusal) in
    let same = c.write.ensures.1 ∙ ap (λ o. bytes_after o text a.out.now) refusal ∙ r.0 in
    (c.refuse.ensures.0 ∙ (λ i. in_front (r.1 i) (same i)), c.refuse.ensures.1 ∙ ap length r.1)

pub returns-in-Ok : goal.returns-in-Ok
unfolding text_printed
returns-in-Ok c =
    let a = c.args in
    let refusal = room_enough a.n (register_sheet c.args.sheet.now) (length a.out.now) c.requires in
    let text = text_of a.n (register_sheet c.args.sheet.now) in
    let r = write_done text a.out.now (writer_refusal a.n (register_sheet c.args.sheet.now) max_text) (sym c.in-Ok.is ∙ c.write.ensures.0 ∙ ap (λ o. write_answer o (length text)) refusal) in
    (c.write.ensures.1 ∙ ap (λ o. bytes_after o text a.out.now) refusal ∙ r.0, r.1)
