-- A text looked through.
--   Looks   what is kept of the lines that were looked at
pub mod Looks
