-- The proofs of specs/Claims.
--   Sheets    tables that the writer does not refuse are lines that can be said
--   Models    rows by their words: the book, the register and the batch of tables
--   Rows      the tables of these lines have the rows of the tables that were written
--   Held      the tables of lines that were read
--   Theorems  the claims
pub mod Sheets
pub mod Models
pub mod Rows
pub mod Held
pub mod Theorems
