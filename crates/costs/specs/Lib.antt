pub mod Kind
pub mod Cents
pub mod Grade
pub mod Same
pub mod KindLaws
