pub mod Pitch
pub mod Promises
