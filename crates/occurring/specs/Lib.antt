-- The event types that occur in a batch, as the code marks them.
--   Counting   what one event counts for
pub mod Counting
