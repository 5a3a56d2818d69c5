-- Laws behind the register.
--   Hits       the first row that passes a test
--   Places     rows that ascend, and what stands at a key's place
--   Searches   what a search for an object or a link finds, and what it means for the register
--   Changes    the rows after one is put in, taken out or changed
--   Rows       the row of an id, and the id of a row
--   Cells      the cells of an object's row
--   Below      the cells of an object's row below the floors of a type
pub mod Hits
pub mod Places
pub mod Searches
pub mod Changes
pub mod Rows
pub mod Cells
pub mod Below
