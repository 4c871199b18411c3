-- The rules 10 and 11 for one pool.
use Rattle.std.specs.Prelude.{ℕ, ◌+◌, List, ltb, length}
use Rattle.base_format.specs.declared.pool.Pool.{Pool}
use Rattle.base_format.specs.Checked.{Checked, refuse, ◌>>◌}
use Rattle.base_format.specs.Pool.{pool_wrong}

-- for the pool whose entry stands at a place
abbrev pub pool_rules : (version : ℕ) → List ℕ → (at id start : ℕ) → Pool → Checked (Unit {0})
pool_rules version file at id start pool =
    refuse 10 at (pool_wrong version file at id start pool) >> refuse 11 at (ltb (length file) (start + pool.size))
