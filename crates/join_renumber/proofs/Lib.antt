pub mod Walk
pub mod Renumbered
