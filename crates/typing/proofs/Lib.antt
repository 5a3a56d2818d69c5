-- Laws of well-typed forms.
--   Types      whether a form is well typed, by its row and its parts
--   Floors     which rows are sums over a floored cell
pub mod Types
pub mod Floors
