-- What an evaluation looks at, and walks over members.
--   Site        tables, rule, variables
--   Values      the meaning of the form that ends before a row
--   Walks       walks over the members of a collection
pub mod Site
pub mod Values
pub mod Walks
