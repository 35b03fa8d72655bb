pub mod Sequence
pub mod Amount
