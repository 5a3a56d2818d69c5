-- `schema::floors::cell_of` meets its contract. A cell is a word of the row.
use Rattle.tables.specs.Columns.{floor_row}
use Rattle.schema.proofs.floors.cell_of.Goals as goal

pub returns : goal.returns
unfolding floor_row
returns c = c.word.ensures
