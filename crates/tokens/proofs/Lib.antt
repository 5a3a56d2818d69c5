-- Laws of names, tokens and items.
--   Names      letters and the numbers that they pack to
--   Tokens     the token at a place, and what follows it
--   Counted    items one after the other
pub mod Names
pub mod Tokens
pub mod Counted
