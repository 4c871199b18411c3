pub mod Laid
pub mod Writing
pub mod Changed
