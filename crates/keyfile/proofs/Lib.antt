pub mod OnNumbers
pub mod OnReadings
pub mod OnWorks
pub mod Grouping
pub mod OnFiles
