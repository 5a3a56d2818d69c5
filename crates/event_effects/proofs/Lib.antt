-- Laws behind an event's effect.
--   Applied   the register's tables after an event
--   Losses    whose loss a link is, and the table of losses
--   Passes    the pass that takes an object's links out
pub mod Applied
pub mod Losses
pub mod Passes
