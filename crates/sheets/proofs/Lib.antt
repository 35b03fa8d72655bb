pub mod Books
pub mod Applies
pub mod Sheets
pub mod Histories
pub mod Calls
