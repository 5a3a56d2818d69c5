-- `room_of` meets its contract: the rows lent, table after table.
use Rattle.tables.specs.Layouts.{lines_lent}
use Rattle.reader.proofs.room_of.Goals as goal

pub returns : goal.returns
unfolding lines_lent
returns c = cc
