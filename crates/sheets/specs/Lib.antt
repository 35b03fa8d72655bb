pub mod Tasks
pub mod Refusals
pub mod Book
pub mod Applies
pub mod History
