-- The batch check of lent tables.
--   Checked    its answer, its list and what it leaves, for all arguments
--   Settled    which register stays
pub mod Checked
pub mod Settled
