-- `register::columns::relationship_of` meets its contract. A relationship is a word of the row.
use Rattle.tables.specs.Columns.{link_row}
use Rattle.register.proofs.columns.relationship_of.Goals as goal

pub returns : goal.returns
unfolding link_row
returns c = c.word.ensures
