-- Laws of what selects a pair.
--   Asked    whether a rule is selected at a row, by what is asked
pub mod Asked
