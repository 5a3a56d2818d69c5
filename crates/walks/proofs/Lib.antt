-- Laws of walks.
--   Members       what is left of an ascending list from an id on
--   Steps         steps of a walk
--   Objects       objects by their rows
--   Walks         walks over the three collections
pub mod Members
pub mod Steps
pub mod Objects
pub mod Walks
