-- Document 01's reach rules as a table (Req 04).
--   Entries   how each form's parts pass a movement on, and the table that says so
pub mod Entries
