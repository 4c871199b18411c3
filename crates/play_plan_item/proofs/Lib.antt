pub mod Slots
pub mod Sheet
