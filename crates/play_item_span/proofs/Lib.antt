-- Laws of the reads.
pub mod Spans
