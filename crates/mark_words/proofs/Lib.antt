-- Laws of marked places.
--   Places   one place more, and the words that were written
pub mod Places
