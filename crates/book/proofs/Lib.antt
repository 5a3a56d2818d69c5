-- Laws behind the check of a book.
--   Rules      whether a rule is faulty
pub mod Rules
