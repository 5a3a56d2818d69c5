-- Laws behind `batch_judge`.
--   Judging    what is said of the selected pairs, by what the code found
pub mod Judging
