pub mod Cards
pub mod Entry
