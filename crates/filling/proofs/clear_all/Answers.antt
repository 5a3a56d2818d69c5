-- `fill::clear_all` meets its contract: each table is cleared.
use Rattle.tables.specs.Layouts.{sheet_of}
use Rattle.text.specs.Entries.{table_of, bodies_of}
use Rattle.filling.proofs.clear_all.Goals as goal

pub returns : goal.returns
unfolding table_of bodies_of
returns c =
    λ j. sheet_of (c.clear.ensures j) (c.clear-2.ensures j) (c.clear-3.ensures j) (c.clear-4.ensures j)
    (c.clear-5.ensures j) (c.clear-6.ensures j) (c.clear-7.ensures j) (c.clear-8.ensures j)
