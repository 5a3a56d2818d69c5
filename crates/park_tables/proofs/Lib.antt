-- Laws behind what is printed of tables.
--   Refusals   a refusal by itself, or the bytes
--   Lists      the line of a rule, by what its event list says; one line more
--   Texts      the text after a batch, by what the batch check and the writer leave
--   Pairs      that words for every pair are enough
pub mod Refusals
pub mod Lists
pub mod Texts
pub mod Pairs
