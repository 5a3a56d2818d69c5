-- Laws behind the selected pairs.
--   Pairs    what an inspection marks, and what the touched rules' events mark, are the selected pairs
pub mod Pairs
