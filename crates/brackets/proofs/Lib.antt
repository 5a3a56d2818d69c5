-- Laws that several proofs cite.
--   Machine    a body by its open forms
--   Stack      the open forms in an array
--   Whole      the rows of a body, put one after the other
pub mod Machine
pub mod Stack
pub mod Whole
