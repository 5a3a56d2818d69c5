-- Laws of marks.
--   Marks      marks added to marks
pub mod Marks
