-- Laws of rows that ascend by their keys.
--   Keys      rows by their keys
pub mod Keys
