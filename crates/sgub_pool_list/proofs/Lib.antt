pub mod Listed
mod Stored
