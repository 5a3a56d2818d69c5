-- Demand 3 at the batch check's own result.
--   Claims    each sentence of demand 3 as a proposition about a call of `batch::check`
pub mod Claims
