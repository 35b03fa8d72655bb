pub mod Input
pub mod Number
pub mod Refusal
pub mod Fault
pub mod Reader
pub mod Spellings
