-- Event types as marks.
--   Marks      a mark for each event type, in document 01's order
--   Lists      what a form lists, by a set of directions
pub mod Marks
pub mod Lists
