-- The selected pairs of a batch that was run.
--   Ended    what is known of a batch at its end, and what its selection marks
pub mod Ended
