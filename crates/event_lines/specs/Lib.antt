-- What is printed of a rule's event list.
--   Events   its line
pub mod Events
