-- Operators as the evaluators have them.
--   Operators   operators by the codes of their rows
pub mod Operators
