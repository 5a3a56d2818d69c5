-- Laws of chains over a key.
--   Chains   from none to all, one place more at the head
--   Pushes   the words of a table with a slot more at the head of its chain
pub mod Chains
pub mod Pushes
