-- What a program prints of a text.
--   Checks    its reading, the batch check of its tables, and what is printed of them
pub mod Checks
