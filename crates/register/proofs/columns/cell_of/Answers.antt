-- `register::columns::cell_of` meets its contract. A cell is a word of the row.
use borrow.Author.Tests.{lt-ltb, le-ltb}
use Rattle.register.specs.Tables.{cell_word}
use Rattle.register.proofs.columns.cell_of.Goals as goal

pub returns-then-cell-ge-CELLS : goal.returns-then-cell-ge-CELLS
unfolding cell_word
returns-then-cell-ge-CELLS c = rw (le-ltb _ _ c.if-cell-ge-CELLS.true)

pub returns : goal.returns
unfolding cell_word
returns c = rw (lt-ltb _ _ c.if-cell-ge-CELLS.false) c.word.ensures
