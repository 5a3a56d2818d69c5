-- Laws of a rule's event list.
--   Rules      what a rule lists
--   Bounds     each event type of the list has a place
pub mod Rules
pub mod Bounds
