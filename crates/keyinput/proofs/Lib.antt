pub mod OnCards
pub mod OnLengths
pub mod OnInputs
pub mod OnSpelled
pub mod OnDeciding
