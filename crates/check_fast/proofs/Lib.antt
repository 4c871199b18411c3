pub mod Items
pub mod Passed
pub mod Ran
pub mod Runs
pub mod Turns
