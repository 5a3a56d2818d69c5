-- `register::columns::target_of` meets its contract. A target is a word of the row.
use Rattle.tables.specs.Columns.{link_row}
use Rattle.register.proofs.columns.target_of.Goals as goal

pub returns : goal.returns
unfolding link_row
returns c = c.word.ensures
