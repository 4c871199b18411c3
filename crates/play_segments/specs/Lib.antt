pub mod Place
pub mod Closing
pub mod Operation
pub mod Turn
pub mod SpanTurn
