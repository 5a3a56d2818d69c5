-- The forward reach rules as the code asks them.
--   Able        what the reach rules are given of a body
--   Moves       whether a form of a body moves in a direction of a set
pub mod Moves
pub mod Able
