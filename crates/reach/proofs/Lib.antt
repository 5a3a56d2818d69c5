-- Laws of the reach rules as the code asks them.
--   Abilities   the parts of a form are able where the form is
--   Nodes       whether a form moves, by its row and its parts
--   Leaves      the leaves by what is asked of events
--   Members     a walk over members that stops at the first that passes a test
--   Answers     what the forward rule answers of a form by its parts
pub mod Abilities
pub mod Nodes
pub mod Leaves
pub mod Members
pub mod Answers
