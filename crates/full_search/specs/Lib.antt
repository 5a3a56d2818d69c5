-- What the search of the full check finds.
--   Search    the search for the first broken pair, and one pair by itself
pub mod Search
