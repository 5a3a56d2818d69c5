-- Lent tables are slices of 32-bit words: rows of a fixed width, one after the other (docs/TABLES.md).
--   Rows   words, rows and gaps
pub mod Rows
