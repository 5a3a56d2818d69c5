-- `any_broken` meets its contract: the tables of a book and a register, and then the events'.
use Rattle.tables.specs.Layouts.{book_tables, sheet_in}
use Rattle.lent_tables.proofs.Torn.{all_whole}
use Rattle.reader.proofs.any_broken.Goals as goal

pub returns-then-any_broken : goal.returns-then-any_broken
unfolding book_tables
returns-then-any_broken c =
    let a = c.args in
    let s = sheet_in a.sheet.now in
    rw (all_whole s, ← c.if-any_broken.ensures) c.if-any_broken.true

pub returns-else-any_broken : goal.returns-else-any_broken
unfolding book_tables
returns-else-any_broken c =
    let a = c.args in
    let s = sheet_in a.sheet.now in
    rw (all_whole s, ← c.if-any_broken.ensures) c.not_whole.ensures
