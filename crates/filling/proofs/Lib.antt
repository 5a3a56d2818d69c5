-- That the lines of a text are put into its tables.
--   Filling   the tables while they are filled
pub mod Filling
