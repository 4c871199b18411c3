pub mod Places
pub mod Operations
