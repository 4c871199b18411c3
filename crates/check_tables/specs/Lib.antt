pub mod Directory
pub mod Layout
