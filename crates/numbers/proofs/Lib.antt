pub mod OnGroups
pub mod OnSpellings
pub mod OnMore
