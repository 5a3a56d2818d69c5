-- Laws of going back.
--   Covers      sets that cover what is reached
--   Nodes       what is reached from a form, by its row and its parts
--   Leaves      what is reached from a form without parts is covered
--   Parts       what is covered of a form, by what is covered of its parts
--   Turning     a role turned round leads back
--   Bases       the collection below selects
--   Images      what a collection leads back to
--   Coverage    the rules read backward lose nothing
--   Rules       a rule of lent tables
pub mod Covers
pub mod Nodes
pub mod Leaves
pub mod Parts
pub mod Turning
pub mod Bases
pub mod Images
pub mod Coverage
pub mod Rules
