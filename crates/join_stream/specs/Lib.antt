pub mod Join
pub mod Promises
