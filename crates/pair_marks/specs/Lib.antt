-- The marks of a batch.
--   Marks    the mark of a rule and a row, and the next that is marked
pub mod Marks
