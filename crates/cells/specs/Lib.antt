pub mod TooFew
pub mod Layout
pub mod Memory
pub mod Minutes
