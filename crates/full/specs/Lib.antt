-- What the full check answers.
--   Answers   the answers for lent tables, refusals included
pub mod Answers
