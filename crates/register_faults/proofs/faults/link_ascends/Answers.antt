-- `register_faults::faults::link_ascends` meets its contract. Row 0 has no row before it.
use Rattle.tables.specs.Columns.{link_row}
use Rattle.schema.proofs.Scan.{previous_row_lem}
use Rattle.register_faults.proofs.faults.link_ascends.Goals as goal

pub returns : goal.returns
unfolding link_row
returns c =
    rw (previous_row_lem _ _ c.if-row-eq0.false, ← c.relationship_of.ensures, ← c.source_of.ensures, ← c.target_of.ensures)
    c.before-2.ensures
