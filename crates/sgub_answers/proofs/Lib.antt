pub mod Cards
pub mod Pools
