-- What the register's functions are said to compute, where specs of other crates do not say it already.
--   Tables   a register of which only one of the two tables is at hand, its rows and cells
--   Guesses  the table of guesses, by the rows that were put
pub mod Tables
pub mod Guesses
