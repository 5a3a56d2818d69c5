pub mod Tests
pub mod Rows
pub mod Founds
pub mod Scan
pub mod Types
pub mod Climb
