pub mod Status
pub mod Quote
pub mod Bargains
pub mod Better
