-- The trace of a batch.
--   Questions   what a leaf of the reach rules asks of the events that name an object
--   Traces      what is kept of a batch: the rows that its events name, and chains of the events of a row
--   Making      how that is made
pub mod Questions
pub mod Traces
pub mod Making
