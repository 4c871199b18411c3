pub mod Body
pub mod Types
pub mod Again
