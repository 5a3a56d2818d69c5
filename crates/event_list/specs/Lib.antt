-- The event list of a rule of a lent book, written into lent words.
--   Answers    what the entry answers, and the words after it
pub mod Answers
