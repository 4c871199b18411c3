pub mod Rule
pub mod Positive
pub mod Sum
pub mod Table
