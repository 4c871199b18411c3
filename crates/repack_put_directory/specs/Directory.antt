-- The directory of a repacked file, as bytes.
use Rattle.std.specs.Prelude.{ℕ, zero, suc, ◌+◌, List, [], ◌++◌}
use Rattle.base_format.specs.Size.{wave_size}
use Rattle.bytes_put_tables.specs.Entry.{entry_bytes}

-- the entries of so many waves from an id on, the first payload at `start`
unfoldable pub wave_entries : (id start count : ℕ) → List ℕ
wave_entries id start zero = []
wave_entries id start (suc count) = entry_bytes id 1 wave_size start ++ wave_entries (id + 1) (start + wave_size) count

-- the directory of so many PCM bytes and so many waves
unfoldable pub directory_of : (pcm waves start : ℕ) → List ℕ
directory_of zero waves start = wave_entries 0 start waves
directory_of (suc n) waves start = entry_bytes 0 2 (suc n) start ++ wave_entries 1 (start + suc n) waves
