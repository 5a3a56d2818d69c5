-- The lowest layer of the text of a schema and its batches: bytes, decimals and lines.
pub mod Runs
pub mod Decimals
pub mod Lines
pub mod Writing
