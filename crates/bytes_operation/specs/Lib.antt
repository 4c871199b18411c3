-- What the contracts of `bytes_operation` cite.
pub mod Decoded
