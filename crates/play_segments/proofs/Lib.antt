pub mod Fewer
pub mod SpanTurns
pub mod Decoded
