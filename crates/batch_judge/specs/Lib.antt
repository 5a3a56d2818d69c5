-- What the listed pairs say.
--   Judged     14, or the first of them that is broken at the end
pub mod Judged
