pub mod Stored
pub mod Plain
pub mod Cards
pub mod Allowed
