pub mod Put
pub mod TooShort
pub mod Write
pub mod Putting
pub mod Room
pub mod Line
pub mod RefusalLine
pub mod Number
