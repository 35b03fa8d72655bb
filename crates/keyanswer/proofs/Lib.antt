pub mod Texts
pub mod Words
pub mod Lengths
pub mod OnRoom
pub mod OnVerdicts
