-- Answers as numbers.
--   Coded      a refusal, an answer, a reading, an event list, a text
pub mod Coded
