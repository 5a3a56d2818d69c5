-- What is held of a line.
--   Rows   the row that a line says, and what is kept of the lines before it
pub mod Rows
