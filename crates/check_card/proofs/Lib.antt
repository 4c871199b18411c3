pub mod Lists
pub mod Zeros
