-- Bytes written into lent memory, passed on.
unfoldable pub use Rattle.bytes_store.specs.Put.{put}
