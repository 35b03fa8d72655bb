pub mod OnStreams
pub mod OnVerdicts
