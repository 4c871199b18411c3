-- What the contracts of `bytes_operation_known` cite.
pub mod Known
