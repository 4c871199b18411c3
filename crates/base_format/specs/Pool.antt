-- Pools: 16 bytes an entry, with an id "equal to its index", kind, "codec 0", size, "the same size again", and the offset "where the directory
-- or the previous payload ended"; the payloads stand one after the other behind the directory.
use Rattle.std.specs.Prelude.{ℕ, zero, suc, ◌+◌, ◌*◌, Bool, true, cond, not, ◌||◌, List, [], ◌∷◌, length, eqb, ltb}
use Rattle.base_format.specs.declared.pool.Pool.{Pool}
use Rattle.base_format.specs.Bytes.{byte, be, part}
use Rattle.base_format.specs.Checked.{Checked, ok, refuse, ◌>>=◌, ◌>>◌}
use Rattle.base_format.specs.Size.{entry_size, pcm_size}

-- the entry of a pool
abbrev pub pool_at : List ℕ → (directory id : ℕ) → Pool
pool_at file directory id =
    record { kind = byte file (directory + id * entry_size + 2); size = be 4 file (directory + id * entry_size + 4); offset = be 4 file (directory + id * entry_size + 12) }

-- kind 3, "version 3 up to 0x400000, version 4 up to 0x2000000"; version 2 has none
unfoldable pub bank_limit : (version : ℕ) → ℕ
bank_limit version = cond (eqb version 4) 0x2000000 (cond (eqb version 3) 0x400000 0)

-- a size that a kind may not have, or no such kind. "Kind 1, wave: 256." "Kind 2, PCM: at most 1,048,576." "Size is at least 1."
unfoldable pub kind_wrong : (version kind size : ℕ) → Bool
kind_wrong version kind size =
    cond (eqb kind 1) (not (eqb size 256))
    (cond (eqb kind 2) (eqb size 0 || ltb pcm_size size)
    (cond (eqb kind 3) (eqb size 0 || ltb (bank_limit version) size) true))

-- what breaks the pool rules (10); `start` is where the directory or the payload before ended
unfoldable pub pool_wrong : (version : ℕ) → List ℕ → (at id start : ℕ) → Pool → Bool
pool_wrong version file at id start pool =
    not (eqb (be 2 file at) id)
    || kind_wrong version pool.kind pool.size
    || not (eqb (byte file (at + 3)) 0)
    || not (eqb (be 4 file (at + 8)) pool.size)
    || not (eqb pool.offset start)

-- a pool's kind and bytes
pub record Payload : Type 0 where
  pub kind : ℕ
  pub bytes : List ℕ

-- what stands for a pool that is not there
abbrev pub no_pool : Payload
no_pool = record { kind = 0; bytes = [] }

-- so many pools from an id, the first payload at `start`; with where the last payload ends. An entry that breaks a rule is 10, a
-- payload that passes the file's end 11
unfoldable pub pools_from : (version : ℕ) → List ℕ → (directory count id start : ℕ) → Checked (List Payload × ℕ)
pools_from version file directory zero id start = ok ([], start)
pools_from version file directory (suc count) id start = do
  let pool = pool_at file directory id
  let at = directory + id * entry_size
  refuse 10 at (pool_wrong version file at id start pool)
  refuse 11 at (ltb (length file) (start + pool.size))
  (pools, end) ← pools_from version file directory count (suc id) (start + pool.size)
  ok (record { kind = pool.kind; bytes = part file start pool.size } ∷ pools, end)
