-- `schema::floors::type_of` meets its contract. A type is a word of the row.
use Rattle.tables.specs.Columns.{floor_row}
use Rattle.schema.proofs.floors.type_of.Goals as goal

pub returns : goal.returns
unfolding floor_row
returns c = c.word.ensures
