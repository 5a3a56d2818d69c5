-- The rules that a batch touches.
--   Shared     marks that two lists of marks share, and what the marks of a batch say
--   Books      what is asked of the lent book
pub mod Shared
pub mod Books
