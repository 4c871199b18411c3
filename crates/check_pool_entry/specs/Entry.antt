-- The entry of a pool by its id.
use Rattle.std.specs.Prelude.{ℕ, cond, List, ltb}
use Rattle.base_format.specs.declared.header.Header.{Header}
use Rattle.base_format.specs.declared.pool.Pool.{Pool}
use Rattle.base_format.specs.Pool.{pool_at}

-- the entry of a pool, all 0 for an unknown pool
unfoldable pub entry_of : List ℕ → Header → (id : ℕ) → Pool
entry_of file header id = cond (ltb id header.pool_count) (pool_at file header.directory_offset id) (record { kind = 0; size = 0; offset = 0 })
