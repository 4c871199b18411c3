-- What the contracts of `play_item_span` cite.
pub mod Decoded
pub mod Span
