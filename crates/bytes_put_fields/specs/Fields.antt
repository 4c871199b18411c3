-- Fields that are written one after the other into lent memory.
use Rattle.std.specs.Prelude.{ℕ, ◌+◌, ◌<◌, List, [], ◌∷◌, length}
use Rattle.base_format.specs.Bytes.{Field, u8, u, raw, bytes_of}
use Rattle.bytes_read.specs.Put.{put}

abbrev pub size_of : Field → ℕ
size_of (u8 n) = 1
size_of (u width n) = width
size_of (raw bytes) = length bytes

-- one field at a place
abbrev pub put_field : Field → (at : ℕ) → List ℕ → List ℕ
put_field (u8 n) at buffer = put (bytes_of 1 n) at buffer
put_field (u width n) at buffer = put (bytes_of width n) at buffer
put_field (raw bytes) at buffer = put bytes at buffer

-- fields from an offset behind a place
abbrev pub put_more : (at offset : ℕ) → List Field → List ℕ → List ℕ
put_more at offset [] buffer = buffer
put_more at offset (field ∷ fields) buffer = put_more at (offset + size_of field) fields (put_field field (at + offset) buffer)

-- fields from a place on
abbrev pub put_fields : (at : ℕ) → List Field → List ℕ → List ℕ
put_fields at [] buffer = buffer
put_fields at (field ∷ fields) buffer = put_more at (size_of field) fields (put_field field at buffer)

-- each byte of them is a byte
abbrev pub Narrow : List Field → Type 0
Narrow [] = Unit {0}
Narrow (u8 n ∷ fields) = (n < 256) × Narrow fields
Narrow (u width n ∷ fields) = Narrow fields
Narrow (raw bytes ∷ fields) = Narrow fields
