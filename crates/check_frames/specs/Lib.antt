pub mod Frames
pub mod Skipped
