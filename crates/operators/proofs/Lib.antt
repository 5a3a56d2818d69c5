-- Laws of operators by their codes.
--   Connectives   connectives by their codes
pub mod Connectives
