-- Laws behind the full check.
--   Answers   what a verdict says about the answers
--   Rules     the same, about one rule at one object
pub mod Answers
pub mod Rules
