-- What the functions over a rule's body answer, by the definitions of the text.
--   Steps    what an open form lacks, and a body
--   Whole    the rows of a body
pub mod Steps
pub mod Whole
