-- What the contracts of `test_vectors` cite.
pub mod Counts
pub mod Front
pub mod Made
pub mod Replays
pub mod Told
