-- The sizes and limits that the sheet gives in bytes. Those of targets are the crate base_targets' definitions; the table of operations'
-- lengths is in Operation.
use Rattle.std.specs.Prelude.{ℕ}

-- a record of version 1
abbrev pub record_size : ℕ
record_size = 5

-- a header: 48 bytes where the version is 4, "40 where it is 2 or 3, else 20"
abbrev pub master_header_size : ℕ
master_header_size = 20

abbrev pub pooled_header_size : ℕ
pooled_header_size = 40

abbrev pub cards_header_size : ℕ
cards_header_size = 48

-- "then 32-byte cards"
abbrev pub card_size : ℕ
card_size = 32

-- "pool entry, 16 bytes"
abbrev pub entry_size : ℕ
entry_size = 16

-- a frame's "u16 count"
abbrev pub count_size : ℕ
count_size = 2

-- the bytes that hold every operation
abbrev pub operation_most : ℕ
operation_most = 16

-- "kind 1, wave: 256"
abbrev pub wave_size : ℕ
wave_size = 256

-- the 256 records of a wave
abbrev pub wave_records_size : ℕ
wave_records_size = 1280

-- PCM memory
abbrev pub pcm_size : ℕ
pcm_size = 1048576

-- the total size of a file at most
abbrev pub file_limit : ℕ
file_limit = 0xE00000

-- an entry of an index for each so many frames, each entry a u32, and the "12-byte trailer" of an index
abbrev pub index_spacing : ℕ
index_spacing = 64

abbrev pub index_entry_size : ℕ
index_entry_size = 4

abbrev pub index_trailer_size : ℕ
index_trailer_size = 12
