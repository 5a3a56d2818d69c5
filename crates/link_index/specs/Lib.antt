-- The index of the links, as a table and what it holds.
--   Slots    an index of the links in both directions
pub mod Slots
