-- What is printed of tables that were read, beside the batch check.
--   Tables   the full check, the event lists, and the text after a batch
--   Claims   what is never met
pub mod Tables
pub mod Claims
