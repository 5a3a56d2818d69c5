-- Answers as words, for programs in other languages.
--   Version    the version of the entries
--   Runs       a batch's run
--   Batches    a batch check
pub mod Version
pub mod Runs
pub mod Batches
