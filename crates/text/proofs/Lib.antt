-- The text and what it says determine each other: names, tokens, bodies, lines, and whole texts.
pub mod Names
pub mod Tokens
pub mod Bodies
pub mod Entries
pub mod Texts
pub mod Determined
pub mod Blocks
