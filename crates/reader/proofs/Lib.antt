-- That the reader leaves the tables of the lines that the text has.
--   Answers   the reader's answer by what was looked at
pub mod Answers
