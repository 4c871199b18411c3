pub mod Places
pub mod Frames
pub mod Empty
pub mod Built
pub mod Index
