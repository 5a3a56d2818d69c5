-- Whether a rule is selected at an object.
--   Ready      what is given of a rule
pub mod Ready
