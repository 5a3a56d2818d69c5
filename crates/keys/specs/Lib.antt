-- Rows by their keys.
--   Keys   rows that ascend, and the place of a key among them
pub mod Keys
