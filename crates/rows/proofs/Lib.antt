-- Laws that several proofs cite.
--   Offsets   where a row starts
--   Parts     a part of a slice, put back; words moved on or back
--   Zeros     words that are 0
--   Words     a word and its signed value
--   Moves     the rows after a row is put in, taken out or changed
--   Listed    the list of rows after that
--   Fronts    a row put; words at the front of a list; the first rows as the words of each
pub mod Offsets
pub mod Parts
pub mod Zeros
pub mod Words
pub mod Moves
pub mod Listed
pub mod Fronts
