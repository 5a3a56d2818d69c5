-- `writer::write` meets its contract: a refusal of the tables is the answer, and where there is none the tables are sound.
use mathlib.Core.Path.{sym, ◌∙◌}
use Rattle.std.proofs.lemmas.Result.{err_from_is_err_and}
use Rattle.tables.specs.Layouts.{Sheet, sheet_in}
use Rattle.writer.proofs.Clear.{refused_answer, none_met}
use Rattle.writer.proofs.write.Goals as goal

pub returns-in_err-refused : goal.returns-in_err-refused
returns-in_err-refused c =
    let a = c.args in
    let s : Sheet = sheet_in a.sheet.now in
    let p = err_from_is_err_and c.from_residual.result c.from_residual.ensures.1 in
    rw (p.1, p.2) (refused_answer a.n s (sym c.in_err-refused.was ∙ c.refused.ensures) a.out.now)

pub write_sound-requires : goal.write_sound-requires
write_sound-requires c =
    none_met c.args.n (sheet_in c.args.sheet.now) (sym c.in_ok-refused.was ∙ c.refused.ensures)
