pub mod Given
pub mod Ranges
