-- A buffer whose COPYs get new pools: it has a file's operations, each `shift` bytes behind its place in the file. The walk is that of
-- index_laws/specs/Frames, so that it is there for any bytes.
use Rattle.std.specs.Prelude.{ℕ, zero, suc, ◌+◌, cond, List, eqb, ltb}
use Rattle.base_format.specs.Bytes.{byte, be, bytes_of}
use Rattle.base_format.specs.Size.{count_size}
use Rattle.bytes_read.specs.Put.{put}
use Rattle.index_laws.specs.Frames.{walk_limit, item_size, items_walked}

-- behind opcode, target and address, 5 bytes together, a COPY has its pool: `before` others come before it now
unfoldable pub item_renumbered : (before shift : ℕ) → (file : List ℕ) → (at : ℕ) → (buffer : List ℕ) → List ℕ
item_renumbered before shift file at buffer =
    cond (eqb (byte file at) 2) (put (bytes_of 2 (before + be 2 file (at + 5))) (at + 5 + shift) buffer) buffer

-- so many operations
unfoldable pub items_renumbered : (before shift : ℕ) → (file : List ℕ) → (count at : ℕ) → (buffer : List ℕ) → List ℕ
items_renumbered before shift file zero at buffer = buffer
items_renumbered before shift file (suc count) at buffer =
    cond (ltb at (walk_limit file)) (items_renumbered before shift file count (at + item_size 3 file at) (item_renumbered before shift file at buffer)) buffer

-- and so many frames
unfoldable pub frames_renumbered : (before shift : ℕ) → (file : List ℕ) → (count at : ℕ) → (buffer : List ℕ) → List ℕ
frames_renumbered before shift file zero at buffer = buffer
frames_renumbered before shift file (suc count) at buffer =
    cond (ltb at (walk_limit file))
    (frames_renumbered before shift file count (items_walked 3 file (be 2 file at) (at + count_size)) (items_renumbered before shift file (be 2 file at) (at + count_size) buffer))
    buffer
