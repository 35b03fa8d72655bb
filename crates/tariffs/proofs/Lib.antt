pub mod Cards
pub mod Firsts
pub mod Tables
pub mod RoundedUps
