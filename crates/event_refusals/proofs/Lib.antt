-- Laws behind an event's refusals.
--   Fields    rows of the table of events, and those that are no event
pub mod Fields
