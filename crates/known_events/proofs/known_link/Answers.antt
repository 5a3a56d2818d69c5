-- `known_events::known_link` meets its contract.
use borrow.Author.Tests.{lt-ltb, le-ltb}
use Rattle.schema.proofs.Types.{relationship_known}
use Rattle.known_events.proofs.known_link.Goals as goal

pub returns-then-relationship-relationship_count : goal.returns-then-relationship-relationship_count
returns-then-relationship-relationship_count c = λ relationships. simp (relationship_known, le-ltb _ _ c.if-relationship-relationship_count.true)

pub returns-then-valid_id : goal.returns-then-valid_id
returns-then-valid_id c =
    λ relationships. simp (relationship_known, lt-ltb _ _ c.if-relationship-relationship_count.false, ← c.valid_id.ensures, c.if-valid_id.true) c.valid_id-then-valid_id.ensures
