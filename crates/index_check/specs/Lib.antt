pub mod Other
pub mod Place
