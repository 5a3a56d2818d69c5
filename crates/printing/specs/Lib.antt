-- What is printed of an answer.
--   Lines     a line of a name and numbers
--   Printed   an answer and its pairs
pub mod Lines
pub mod Printed
