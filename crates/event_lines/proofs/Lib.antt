-- Laws behind the line of an event list.
--   KindNames the names of the kinds of events
--   Lines     the line by the words of its event types
pub mod KindNames
pub mod Lines
