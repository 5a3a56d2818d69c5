-- Laws of the touched rules.
--   Marks      a rule's marks and those of a batch share one where the batch touches the rule
--   Books      what no refusal gives of a lent book, and a rule of it
--   Bits       the rules that pass a test, as the bits of a word
pub mod Marks
pub mod Books
pub mod Bits
