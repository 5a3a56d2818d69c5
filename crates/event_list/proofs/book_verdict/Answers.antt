-- `event_list::book_verdict` meets its contract: the checks of the book with an empty register.
use mathlib.Core.Path.{ap, ◌∙◌}
use Rattle.tables.specs.Refusals.{verdict_of}
use Rattle.event_list.proofs.Answers.{book_alone_lem}
use Rattle.event_list.proofs.book_verdict.Goals as goal

pub returns : goal.returns
returns c =
    let a = c.args in
    c.check.ensures ∙ ap verdict_of (book_alone_lem a.n a.sheet.now.types.now a.sheet.now.floors.now a.sheet.now.relationships.now a.sheet.now.rules.now a.sheet.now.bodies.now)
