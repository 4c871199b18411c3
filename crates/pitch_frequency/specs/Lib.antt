pub mod Frequency
