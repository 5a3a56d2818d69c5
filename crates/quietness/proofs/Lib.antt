-- Laws of quiet bodies.
--   Unlinked   when a form is quiet, by its row and its parts
--   Entries    what brings an object into a rule's context type, by what is still of the rule
pub mod Unlinked
pub mod Entries
