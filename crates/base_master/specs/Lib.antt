pub mod Places
pub mod Result
pub mod Uses
