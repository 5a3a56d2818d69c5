-- Chains over a key.
--   Chains   what the places of a key are, and one more at its head
pub mod Chains
