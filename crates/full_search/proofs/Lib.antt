-- Laws behind the search.
--   Given     what no refusal gives the search
--   Pairs     the pairs that are left to the search
pub mod Given
pub mod Pairs
