-- A pool that is looked up.
use Rattle.std.specs.Prelude.{ℕ, List}
use Rattle.base_format.specs.declared.pool.Pool.{Pool}
use Rattle.base_format.specs.Checked.{Checked, mapped}
use Rattle.base_format.specs.Header.{header_of}
use Rattle.base_format.specs.Stream.{Stream, read}
use Rattle.check_pool_entry.specs.Entry.{entry_of}

-- the entry of an accepted file's pool, or the refusal
abbrev pub pool_found : List ℕ → (id : ℕ) → Checked Pool
pool_found file id = mapped (λ (s : Stream). entry_of file (header_of file) id) (read file)
