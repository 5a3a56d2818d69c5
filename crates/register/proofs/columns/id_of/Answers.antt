-- `register::columns::id_of` meets its contract. An id is a word of the row.
use Rattle.tables.specs.Columns.{object_row}
use Rattle.register.proofs.columns.id_of.Goals as goal

pub returns : goal.returns
unfolding object_row
returns c = c.word.ensures
