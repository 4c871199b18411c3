pub mod Records
pub mod Operation
