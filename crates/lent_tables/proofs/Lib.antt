-- Laws of tables by their rows alone.
--   Counting   more rows used than the lower of two bounds, and a row of many that passes a test
--   Torn       tables that are not whole rows, the events' table last
pub mod Counting
pub mod Torn
