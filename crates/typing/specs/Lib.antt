-- Whether forms are well typed.
--   Types      what is asked of its forms
pub mod Types
