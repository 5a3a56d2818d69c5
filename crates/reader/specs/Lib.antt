-- What the reader answers and leaves.
--   Reads   the answer, and the tables after it
pub mod Reads
