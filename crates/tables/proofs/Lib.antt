-- Laws of how tables are read.
--   Readings     what the reading of a body row depends on; the form that ends before a row
--   Forms        a body and its rows determine each other
--   Determined   a model determines the words of its tables
pub mod Readings
pub mod Forms
pub mod Determined
pub mod Operators
