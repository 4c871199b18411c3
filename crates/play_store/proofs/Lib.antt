pub mod Storing
pub mod Taken
pub mod Parts
pub mod PartStored
pub mod Frames
pub mod Closing
pub mod Call
