-- What the program `park` prints of a text.
--   Prints   by what is asked
--   Words    the words that ask it
pub mod Prints
pub mod Words
