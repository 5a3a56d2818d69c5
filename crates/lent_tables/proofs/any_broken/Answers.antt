-- `lent_tables::any_broken` meets its contract.
use Rattle.tables.specs.Layouts.{book_tables}
use Rattle.lent_tables.proofs.any_broken.Goals as goal

pub returns : goal.returns
unfolding book_tables
returns c = cc
