pub mod Batch
pub mod Question
pub mod Input
pub mod Spelled
pub mod Deciding
