-- `register_faults::faults::faulty_link` meets its contract. Order and limits decide `faulty_link`.
use Rattle.meaning.specs.Register.{faulty_link}
use Rattle.register_faults.proofs.faults.faulty_link.Goals as goal

pub returns-then-link_ascends : goal.returns-then-link_ascends
unfolding faulty_link
returns-then-link_ascends c = λ fs ls. rw (← c.link_ascends.ensures, c.if-link_ascends.true, ← c.link_fits.ensures fs ls)

pub returns-else-link_ascends : goal.returns-else-link_ascends
unfolding faulty_link
returns-else-link_ascends c = λ fs ls. rw (← c.link_ascends.ensures, c.if-link_ascends.false)
