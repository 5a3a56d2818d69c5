-- Going back.
--   Back      the reach rules read backward
--   Walkable  what going back is given of a body
pub mod Back
pub mod Walkable
