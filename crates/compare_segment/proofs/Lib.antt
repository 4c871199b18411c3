pub mod Near
pub mod Streams
