-- `read` meets its contract: the answer is what the text and the tables meet, and where it is done they are filled.
use mathlib.Core.Path.{sym, ◌∙◌}
use Rattle.std.proofs.lemmas.Result.{err_from_is_err_and}
use Rattle.tables.specs.Layouts.{Sheet, sheet_of}
use Rattle.reader.specs.Reads.{lent_reading}
use Rattle.reader.proofs.Answers.{kept_so, taken_so}
use Rattle.reader.proofs.read.Goals as goal

pub fill-requires : goal.fill-requires
fill-requires c =
    let a = c.args in
    taken_so (lent_reading a.text.now (sheet_of a.types.now a.floors.now a.relationships.now a.rules.now a.bodies.now a.objects.now a.links.now a.events.now)) (sym c.in_ok-n.was ∙ c.examine.ensures)

pub returns-in_err-n : goal.returns-in_err-n
returns-in_err-n c =
    let a = c.args in
    let s : Sheet = sheet_of a.types.now a.floors.now a.relationships.now a.rules.now a.bodies.now a.objects.now a.links.now a.events.now in
    let p = err_from_is_err_and c.from_residual.result c.from_residual.ensures.1 in
    let answer = sym c.in_err-n.was ∙ c.examine.ensures in
    rw (p.1, p.2) (answer, kept_so (lent_reading a.text.now s) answer s)

pub returns : goal.returns
returns c = (sym c.in_ok-n.was ∙ c.examine.ensures, c.fill.ensures)
