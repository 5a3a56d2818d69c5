-- `schema::floors::floor_ascends` meets its contract. Row 0 has no row before it.
use Rattle.tables.specs.Columns.{floor_row}
use Rattle.schema.proofs.Scan.{previous_row_lem}
use Rattle.schema.proofs.floors.floor_ascends.Goals as goal

pub returns : goal.returns
unfolding floor_row
returns c =
    rw (previous_row_lem _ _ c.if-row-eq0.false, ← c.cell_of.ensures, ← c.type_of.ensures) c.before-2.ensures
