pub mod Empty
pub mod FrameWalk
pub mod Steps
pub mod Turn
