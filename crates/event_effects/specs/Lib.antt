-- What an event does to the register's tables.
--   Losses    the losses of the links that deletes take along
--   Effects   what an event does to a table, and when it can
pub mod Losses
pub mod Effects
