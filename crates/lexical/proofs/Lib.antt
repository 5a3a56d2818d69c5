-- Laws that several proofs cite, and the theorems on the text.
--   Runs       the bytes at the start that pass a test
--   Writing    bytes put into a text
--   Spelling   the digits of a number
--   Decimals   a number is read as it was written, and written as it was read
--   Cut        what the reader keeps of digits that are too many
--   Lines      a text is its first line and what follows
pub mod Runs
pub mod Writing
pub mod Spelling
pub mod Decimals
pub mod Cut
pub mod Lines
