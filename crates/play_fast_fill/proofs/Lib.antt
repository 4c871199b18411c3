pub mod Counts
pub mod Steps
pub mod Items
pub mod Gathered
