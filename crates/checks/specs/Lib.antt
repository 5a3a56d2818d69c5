pub mod Stages
pub mod Given
