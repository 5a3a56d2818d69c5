-- The bytes of lines.
--   Put      bytes put at a place
--   Lines    the lines of lent tables, by row numbers, and what they need
pub mod Put
pub mod Lines
