-- The rows of a rule's body.
--   Marks      what is kept of a body's rows
pub mod Marks
