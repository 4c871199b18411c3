pub mod Jumped
