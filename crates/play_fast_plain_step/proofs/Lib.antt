pub mod Takes
pub mod Called
