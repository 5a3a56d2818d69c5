-- The tables that lines are put into.
--   Fills   one line after the other, and all of them
pub mod Fills
