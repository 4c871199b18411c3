-- The rules 15 to 19 for an operation whose target is found.
use Rattle.std.specs.Prelude.{ℕ}
use Rattle.base_format.specs.declared.operation.Item.{Item}
use Rattle.base_format.specs.declared.operation.Operation.{Operation}
use Rattle.base_format.specs.declared.operation.Operation.TheVariants.{Write, Fill, Copy}
use Rattle.base_format.specs.declared.pool.Pool.{Pool}
use Rattle.base_targets.specs.declared.Target.{Target}
use Rattle.base_format.specs.Checked.{Checked, ok, ◌>>◌}
use Rattle.base_format.specs.Operation.{write_rules, fill_rules, copy_rules}

abbrev pub allowed_at : (version pools : ℕ) → (pool_of : ℕ → Pool) → (at : ℕ) → Target → Operation → Checked (Unit {0})
allowed_at version pools pool_of at target (Write number address value) = write_rules at target address
allowed_at version pools pool_of at target (Fill number address size value) = fill_rules at target address size
allowed_at version pools pool_of at target (Copy number address id source size) = copy_rules at version pools target address id (pool_of id) source size

-- the operation with the place behind it, if they allow it
abbrev pub allowed_item : (version pools : ℕ) → (pool_of : ℕ → Pool) → (at : ℕ) → Target → Operation → (next : ℕ) → Checked Item
allowed_item version pools pool_of at target operation next =
    allowed_at version pools pool_of at target operation >> ok (record { operation = operation; next = next })
