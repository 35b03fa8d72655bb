pub mod Refusal
pub mod Hire
pub mod QuoteLine
pub mod Answer
