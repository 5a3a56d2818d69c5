-- Laws of the selection.
--   Adding   what is marked of a rule's rows one after the other, and of rules one after the other
--   Pairs    the pairs of the rules at whose rows a rule is selected are the selected pairs
--   Given    what no refusal gives the selection of a rule
--   Going    rules one after the other
pub mod Adding
pub mod Pairs
pub mod Given
pub mod Going
