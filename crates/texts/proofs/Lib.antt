pub mod Puts
pub mod Pieces
pub mod Rooms
pub mod OnDigits
pub mod Lines
pub mod Numbers
pub mod Fitting
