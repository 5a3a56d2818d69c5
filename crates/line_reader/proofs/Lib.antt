-- That what is held of a line is what the line says.
--   Words    the numbers of a line as words
--   Rows     words that fill a row
--   Flat     the lines of every section but the rules'
--   Lines    a line after the lines before it
--   Bodied   a rule's line with its body
pub mod Words
pub mod Rows
pub mod Flat
pub mod Lines
pub mod Bodied
