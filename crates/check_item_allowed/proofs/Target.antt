-- The rules go by the target that the operation's number stands for.
use Prim.Native.Nat.{ℕ}
use mathlib.Core.Path.{◌≡◌, refl}
use Rattle.base_format.specs.declared.operation.Operation.{Operation}
use Rattle.base_format.specs.declared.operation.Operation.TheVariants.{Write, Fill, Copy}
use Rattle.base_format.specs.Operation.{Setting, allowed}
use Rattle.base_format.specs.Target.{target_of}
use Rattle.base_format.specs.Writes.{target_number}
use Rattle.check_item_allowed.specs.Rules.{allowed_at}

pub allowed_at_lem : (setting : Setting) (at : ℕ) (operation : Operation)
    → allowed setting at operation ≡ allowed_at setting.version setting.pools setting.pool_of at (target_of setting.version setting.cards (target_number operation)) operation
unfolding allowed
allowed_at_lem setting at (Write target address value) = refl
allowed_at_lem setting at (Fill target address size value) = refl
allowed_at_lem setting at (Copy target address id source size) = refl
