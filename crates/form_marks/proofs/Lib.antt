-- Laws of what forms list.
--   Nodes      what a form lists, by its row and its parts
pub mod Nodes
