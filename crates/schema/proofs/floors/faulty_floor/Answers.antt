-- `schema::floors::faulty_floor` meets its contract. Order and the type's cells decide `faulty_floor`.
use Rattle.meaning.specs.Schema.{faulty_floor}
use Rattle.schema.proofs.Tests.{not_ltb}
use Rattle.schema.proofs.floors.faulty_floor.Goals as goal

pub returns-then-floor_ascends : goal.returns-then-floor_ascends
unfolding faulty_floor
returns-then-floor_ascends c =
    simp (← c.floor_ascends.ensures, c.if-floor_ascends.true, ← c.type_of-t.ensures, ← c.cell_of.ensures, ← c.cells_of.ensures, not_ltb)

pub returns-else-floor_ascends : goal.returns-else-floor_ascends
unfolding faulty_floor
returns-else-floor_ascends c = rw (← c.floor_ascends.ensures, c.if-floor_ascends.false)
