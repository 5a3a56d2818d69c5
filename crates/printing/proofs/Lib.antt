-- Laws behind what is printed.
--   Numbers   the digits of a number, and how many there are
--   Lines     lines by their pieces, and how long they are
--   Rows      the first rows of a list: one more, and those that were written there
--   Printed   an answer and its pairs
pub mod Numbers
pub mod Lines
pub mod Rows
pub mod Printed
