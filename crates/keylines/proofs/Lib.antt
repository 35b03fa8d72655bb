pub mod Joins
pub mod Pairs
pub mod Machines
