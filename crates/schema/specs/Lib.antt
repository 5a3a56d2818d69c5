-- What the schema's functions are said to compute, where specs of other crates do not say it already.
--   Previous   the row before a row of a table
pub mod Previous
