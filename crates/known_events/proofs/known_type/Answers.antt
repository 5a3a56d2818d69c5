-- `known_events::known_type` meets its contract.
use Rattle.schema.proofs.Types.{type_known}
use Rattle.known_events.proofs.known_type.Goals as goal

pub returns-then-valid_id : goal.returns-then-valid_id
returns-then-valid_id c = λ types. simp (← c.valid_id.ensures, c.if-valid_id.true, type_known)
