pub mod Samples
pub mod Asked
pub mod Cases
