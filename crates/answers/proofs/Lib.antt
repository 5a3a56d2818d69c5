-- Laws behind what a program prints of a text.
--   Checking  a batch check and a read, by what they leave
pub mod Checking
