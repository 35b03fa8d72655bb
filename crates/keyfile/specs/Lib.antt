pub mod Reading
pub mod Refusal
pub mod Card
pub mod Sheet
pub mod Works
pub mod Files
