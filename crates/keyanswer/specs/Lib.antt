pub mod Answer
pub mod Refusal
pub mod Compare
pub mod Words
pub mod Better
