pub mod Reading
pub mod Quotes
