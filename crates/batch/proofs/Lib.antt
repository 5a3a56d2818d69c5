-- Laws behind the batch check.
--   Outcomes   the outcome of lent tables: a refusal, or that of the batch's end
--   Ending     what is known at the end of a batch that is not refused
--   Back       a copy's rows brought back into its table
--   Leaving    what is left, by the outcome
pub mod Outcomes
pub mod Ending
pub mod Back
pub mod Leaving
