-- Sets of rows.
--   Sets   how they grow, and how one is emptied
pub mod Sets
