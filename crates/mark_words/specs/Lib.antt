-- Event types read off marks.
--   Places   the marked places, from the lowest, and their words
pub mod Places
