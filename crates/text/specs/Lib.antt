-- Document 01, "Text": the one spelling of every line and of a whole text, and the reader as a function of bytes and lent rows.
--   Names    the names of sections, events and operators
--   Tokens   a line as brackets and items
--   Bodies   a body's forms as tokens and as rows
--   Entries  a line as a row of a table
--   Texts    a whole text, and refusals 1 and 2
--   Sheets   lent tables as the lines of a text
pub mod Names
pub mod Tokens
pub mod Bodies
pub mod Entries
pub mod Texts
pub mod Sheets
