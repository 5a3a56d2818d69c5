-- Quiet bodies as the code has them.
--   Quiet      when a form is quiet, by the code of its row; what is still of a rule
pub mod Quiet
