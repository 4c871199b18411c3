pub mod PlannedOperations
