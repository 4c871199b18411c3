-- What a plan answers, and what a call reports.
pub mod Calls
pub mod Reported
