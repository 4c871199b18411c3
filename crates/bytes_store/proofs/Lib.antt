pub mod Laws
pub mod Low
