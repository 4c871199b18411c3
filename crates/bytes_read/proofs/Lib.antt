pub mod Laws
pub mod Sequence
