-- Words in place of answers.
--   Told       of a batch's run
--   Outcomes   of a batch check
pub mod Told
pub mod Outcomes
