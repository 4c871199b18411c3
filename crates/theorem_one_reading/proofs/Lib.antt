pub mod Waves
pub mod RepackedFrames
pub mod RepackedOpening
pub mod Repacked
pub mod Reading
