-- How lent tables are read as document 01's book, register and batch. Columns and codes: docs/TABLES.md.
--   Layouts    the lent tables as one sheet; widths, limits and sections
--   Codes      the operator codes of body rows
--   Bodies     a body's rows as a form, and a form as rows
--   Columns    the rows of every table
--   Words      the words of a row, by what it holds
--   Refusals   refusals 2 and 6, and every refusal of a book and a register in order
--   Answers    the answers of the checks
--   Met        the type that an event met
--   Losses     the links that deletes took along
pub mod Layouts
pub mod Codes
pub mod Bodies
pub mod Columns
pub mod Words
pub mod Refusals
pub mod Answers
pub mod Met
pub mod Losses
