-- Laws of sets of rows.
--   Growth      marks of rows that only grow
--   Fars        a walk along a role that marks each far row
--   Tests       what a true test says of its parts
pub mod Growth
pub mod Fars
pub mod Tests
