-- What the code answers, as numbers.
--   Coded      of a verdict, an answer, a reading
pub mod Coded
