pub mod Machine
pub mod Point
pub mod Plan
