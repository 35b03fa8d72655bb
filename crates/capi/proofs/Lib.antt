pub mod OnBetter
