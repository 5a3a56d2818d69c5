-- Demand 3 at the batch check's own result.
--   Theorems   a proof of each claim
pub mod Theorems
