-- The pairs that are marked.
--   Pairs    the marked pairs, ascending, and the words of a list of pairs
pub mod Pairs
