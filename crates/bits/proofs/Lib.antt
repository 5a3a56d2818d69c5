-- Laws of the bits of a word.
--   Digits     the bits that are set, by halving the word
--   Words      the word with a bit, and one taken after the other
pub mod Digits
pub mod Words
