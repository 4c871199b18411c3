-- The entries of a file's pool directory in a joined file, by the file's own directory.
use Rattle.std.specs.Prelude.{ℕ, zero, suc, ◌+◌, ◌*◌, ◌≤◌, ◌<◌, List, [], ◌++◌}
use Rattle.base_format.specs.declared.pool.Pool.{Pool}
use Rattle.base_format.specs.Pool.{pool_at}
use Rattle.base_format.specs.Size.{pooled_header_size, entry_size}
use Rattle.bytes_put_tables.specs.Entry.{entry_bytes}

-- the entry of a pool: so many ids come before the file's own, and each payload stands so many bytes further on
abbrev pub entry_moved : (file : List ℕ) → (id moved entry : ℕ) → List ℕ
entry_moved file id moved entry =
    let pool : Pool = pool_at file pooled_header_size entry in
    entry_bytes (id + entry) pool.kind pool.size (pool.offset + moved)

-- so many entries from one on
unfoldable pub entries_moved : (file : List ℕ) → (id moved entry count : ℕ) → List ℕ
entries_moved file id moved entry zero = []
entries_moved file id moved entry (suc count) = entry_moved file id moved entry ++ entries_moved file id moved (entry + 1) count

-- ids have 2 bytes and offsets 4, and the buffer has room
pub record EntriesFit (file : List ℕ) (count room at id moved : ℕ) : Type 0 where
  pub ids : id + count ≤ 65536
  pub fits : at + count * entry_size ≤ room
  pub offsets : (entry : ℕ) → entry < count → (pool_at file pooled_header_size entry).offset + moved < 4294967296
