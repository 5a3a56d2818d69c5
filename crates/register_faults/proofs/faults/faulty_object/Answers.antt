-- `register_faults::faults::faulty_object` meets its contract. Order and limits decide `faulty_object`.
use Rattle.meaning.specs.Register.{faulty_object}
use Rattle.register_faults.proofs.faults.faulty_object.Goals as goal

pub returns-then-object_ascends : goal.returns-then-object_ascends
unfolding faulty_object
returns-then-object_ascends c = rw (← c.object_ascends.ensures, c.if-object_ascends.true, ← c.object_fits.ensures)

pub returns-else-object_ascends : goal.returns-else-object_ascends
unfolding faulty_object
returns-else-object_ascends c = rw (← c.object_ascends.ensures, c.if-object_ascends.false)
