-- Laws of the list of a rule's event types.
--   Read       the marked places are the event list
--   Answers    what the checks say about the answer
pub mod Read
pub mod Answers
