-- `full::check` meets its contract: the verdict of the checks, and then the search over the indexed register.
use mathlib.Core.Bool.{false}
use mathlib.Core.Path.{sym, ◌∙◌}
use borrow.Author.Rules.{rules}
use mathlib.Core.List.{[]}
use Rattle.tables.specs.Layouts.{register_sheet}
use Rattle.full_search.proofs.Given.{register_fits, can_index, zeros}
use Rattle.checks.proofs.Given.{clear_none, given}
use Rattle.full.proofs.Answers.{answer_refused, answer_found}
use Rattle.full.proofs.check.Goals as goal

pub index-requires : goal.index-requires
index-requires c =
    let s = register_sheet c.args.sheet.now in
    let clear = given c.args.n s false (clear_none _ (sym c.in-Ok.is ∙ c.check.ensures)) in
    let fits = register_fits c.args.n s clear in
    (fits.objects_ascend, fits.links_ascend, can_index c.args.n s clear, zeros 81920)

pub search-requires : goal.search-requires
search-requires c = record { given = given _ _ false (clear_none _ (sym c.in-Ok.is ∙ c.check.ensures)); indexed = c.index.ensures }

pub returns-in-Err : goal.returns-in-Err
returns-in-Err c = answer_refused _ _ (sym c.in-Err.is ∙ c.check.ensures)

pub returns-in-Ok : goal.returns-in-Ok
returns-in-Ok c =
    let check = c.check in
    answer_found _ _ (sym c.in-Ok.is ∙ check.ensures) c.search.ensures
