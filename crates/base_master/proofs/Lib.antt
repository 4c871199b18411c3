pub mod Counted
pub mod Master
pub mod Numbered
pub mod Pieces
pub mod Result
pub mod Sections
pub mod Uses
