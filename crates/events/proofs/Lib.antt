-- Laws behind the events.
--   Allowed   what an event that is not refused can do
--   MetTypes  the type that an event's object had when it came
--   Lost      the losses before each event of a batch
--   Reached   the events of a batch one after the other
--   Answers   what a run answers
pub mod Allowed
pub mod MetTypes
pub mod Lost
pub mod Reached
pub mod Answers
