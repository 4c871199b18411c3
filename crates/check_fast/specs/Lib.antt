-- What the contracts of `check_fast` cite.
pub mod Passes
pub mod Run
