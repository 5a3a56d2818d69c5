-- Laws of the marked pairs.
--   Left     the pairs that are left from a rule on, and from a row of a rule on
--   Words    the words of the pairs that are written
--   Found    the first broken pair among those that are left
pub mod Left
pub mod Words
pub mod Found
