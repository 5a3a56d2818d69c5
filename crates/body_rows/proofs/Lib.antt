-- Laws of a body's rows.
--   Shapes     the table of the operators' shapes
--   Marks      the form that ends before a row, by what is kept of the rows before it
--   Kept       what the scan of a body keeps
--   Nodes      the form that ends before a row, by its operator and its parts
pub mod Shapes
pub mod Marks
pub mod Kept
pub mod Nodes
