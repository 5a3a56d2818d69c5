-- `register_faults::faults::object_ascends` meets its contract. Row 0 has no row before it.
use Rattle.tables.specs.Columns.{object_row}
use Rattle.schema.proofs.Scan.{previous_row_lem}
use Rattle.register_faults.proofs.faults.object_ascends.Goals as goal

pub returns : goal.returns
unfolding object_row
returns c =
    rw (previous_row_lem _ _ c.if-row-eq0.false, ← c.id_of.ensures) c.before-2.ensures
