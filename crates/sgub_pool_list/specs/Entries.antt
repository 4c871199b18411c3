-- The entries of pools, and what is stored of them.
use Rattle.std.specs.Prelude.{ℕ, zero, suc, min, List, [], ◌∷◌, length}
use Rattle.base_format.specs.declared.pool.Pool.{Pool}
use Rattle.base_format.specs.Lent.{stored}
use Rattle.base_format.specs.Pool.{pool_at}
use Rattle.sgub_pool_list.specs.declared.SgubPoolEntry.{SgubPoolEntry}

abbrev pub listed_entry : Pool → SgubPoolEntry
listed_entry pool = record { kind = pool.kind; size = pool.size; offset = pool.offset }

-- so many entries from an id on
unfoldable pub entries_from : List ℕ → (directory count id : ℕ) → List SgubPoolEntry
entries_from file directory zero id = []
entries_from file directory (suc count) id = listed_entry (pool_at file directory id) ∷ entries_from file directory count (suc id)

-- they stand at the run's front, as many as it holds
unfoldable pub entries_stored : List ℕ → (directory count : ℕ) → List SgubPoolEntry → List SgubPoolEntry
entries_stored file directory count run = stored (entries_from file directory (min (length run) count) 0) run
