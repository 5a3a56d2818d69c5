-- Laws of the marks.
--   Bits     the bits of a word, and the first of them
--   Words    what a word says of the rows and rules it marks, and one mark more
pub mod Bits
pub mod Words
