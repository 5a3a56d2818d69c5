-- Laws behind the index of the links.
--   Far        the far ends of a role, by the rows of the links
--   Ends       the two places of a link and their ends
--   Laid       the table of slots, one slot more
--   Walk       the walk along a role from an object's row
--   Fits       a register that fits its schema can be indexed
pub mod Far
pub mod Ends
pub mod Laid
pub mod Walk
pub mod Fits
