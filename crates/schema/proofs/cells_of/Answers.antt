-- `schema::cells_of` meets its contract. A cell count is a used word of the types.
use Rattle.schema.proofs.Types.{cells_used}
use Rattle.schema.proofs.cells_of.Goals as goal

pub returns : goal.returns
returns c = rw (cells_used _ _ _) c.used_word.ensures
