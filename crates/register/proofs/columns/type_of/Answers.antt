-- `register::columns::type_of` meets its contract. A type is a word of the row.
use Rattle.tables.specs.Columns.{object_row}
use Rattle.register.proofs.columns.type_of.Goals as goal

pub returns : goal.returns
unfolding object_row
returns c = c.word.ensures
