-- `examine` meets its contract: the refusals of the text, then that of the tables.
use mathlib.Core.Path.{sym, subst, ◌∙◌}
use Rattle.std.proofs.lemmas.Result.{err_from_is_err_and}
use Rattle.tables.specs.Layouts.{layouts, lines_lent, sheet_in}
use Rattle.tables.specs.Refusals.{not_whole}
use Rattle.text.specs.Texts.{reading}
use Rattle.reading.specs.Looks.{Shown}
use Rattle.reader.specs.Reads.{lent_reading}
use Rattle.reader.proofs.Answers.{too_long_lem, refusal, is_taken_lem, unless_broken_lem, refused_so, done_so}
use Rattle.reader.proofs.examine.Goals as goal

pub returns-then-text-gt-MAX_TEXT : goal.returns-then-text-gt-MAX_TEXT
unfolding lent_reading
returns-then-text-gt-MAX_TEXT c =
    let a = c.args in
    let s = sheet_in a.sheet.now in
    refused_so (too_long_lem (lines_lent s) a.text.now (not_whole layouts s) c.if-text-gt-MAX_TEXT.true)

pub returns-in_err-seen : goal.returns-in_err-seen
unfolding lent_reading
returns-in_err-seen c =
    let a = c.args in
    let s = sheet_in a.sheet.now in
    let shown : Shown (reading (lines_lent s) a.text.now) c.look.result = subst (λ l. Shown (reading l a.text.now) c.look.result) c.room_of-room.ensures c.look.ensures in
    let e = subst (Shown (reading (lines_lent s) a.text.now)) c.in_err-seen.was shown in
    let p = err_from_is_err_and c.from_residual.result c.from_residual.ensures.1 in
    rw (p.1, p.2) (refused_so (refusal (reading (lines_lent s) a.text.now) (not_whole layouts s) _ e))

pub returns-then-any_broken : goal.returns-then-any_broken
unfolding lent_reading
returns-then-any_broken c =
    let a = c.args in
    let s = sheet_in a.sheet.now in
    let shown : Shown (reading (lines_lent s) a.text.now) c.look.result = subst (λ l. Shown (reading l a.text.now) c.look.result) c.room_of-room.ensures c.look.ensures in
    let taken = is_taken_lem (reading (lines_lent s) a.text.now) _ (subst (Shown (reading (lines_lent s) a.text.now)) c.in_ok-seen.was shown) in
    refused_so (unless_broken_lem taken.1 (sym c.any_broken.ensures ∙ c.if-any_broken.true))

pub returns : goal.returns
unfolding lent_reading
returns c =
    let a = c.args in
    let s = sheet_in a.sheet.now in
    let shown : Shown (reading (lines_lent s) a.text.now) c.look.result = subst (λ l. Shown (reading l a.text.now) c.look.result) c.room_of-room.ensures c.look.ensures in
    let taken = is_taken_lem (reading (lines_lent s) a.text.now) _ (subst (Shown (reading (lines_lent s) a.text.now)) c.in_ok-seen.was shown) in
    done_so (unless_broken_lem taken.1 (sym c.any_broken.ensures ∙ c.if-any_broken.false)) c.in_ok-seen.seen.counts c.in_ok-seen.seen.cells taken.2
