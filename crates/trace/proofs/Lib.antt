-- Laws of the trace and of how it is made.
--   Tracing     the whole trace, from its parts
--   Runs        a batch that was run, as the trace sees it
pub mod Tracing
pub mod Runs
