-- Events on the register's tables.
--   Steps     one event on tables that fit their schema
--   Runs      the events of a batch one after the other, and the type that each one's object had
pub mod Steps
pub mod Runs
