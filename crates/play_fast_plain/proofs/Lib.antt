pub mod Behind
pub mod Items
pub mod Gather
pub mod Writes
