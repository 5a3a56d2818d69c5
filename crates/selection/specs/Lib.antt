-- The selection of a batch's pairs.
--   Selected   at which rows a rule is selected, and what is marked
pub mod Selected
