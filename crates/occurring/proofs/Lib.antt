-- Laws of what an event counts for.
--   Types     the marks of event types whose types are some of 32
--   Counts    what an event counts for, by the words of its row
--   Batches   the event types that occur in a batch, by what its events count for
pub mod Types
pub mod Counts
pub mod Batches
