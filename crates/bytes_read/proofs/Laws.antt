-- Laws of numbers that are written into bytes, passed on.
pub use Rattle.bytes_store.proofs.Laws.{put_fits, put_passes, number_passes, put_next, be_put, put_before_lem, put_behind, length_put, put_first, put_part}
