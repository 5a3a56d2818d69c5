-- What the table of directions says of sets of directions.
--   Sets      sets of directions as numbers
--   Passes    the directions of a part by the directions of its form
pub mod Sets
pub mod Passes
