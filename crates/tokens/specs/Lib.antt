-- What the functions over a line's bytes answer, by the definitions of the text.
--   Tokens   names, tokens, items
pub mod Tokens
