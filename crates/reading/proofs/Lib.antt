-- That a text is looked through as document 01 says.
--   Looking   the lines one after the other
pub mod Looking
