pub mod Used
pub mod Address
pub mod PlannedOperations
pub mod Planned
