pub mod Refusal
pub mod Row
pub mod Limit
pub mod Bargain
pub mod Better
pub mod Words
pub mod Equations
pub mod OffTheFront
