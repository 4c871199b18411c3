pub mod Card
pub mod Entry
