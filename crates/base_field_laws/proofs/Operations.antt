-- How long the fields of an operation are that stands at a place.
use Prim.Native.Nat.{ℕ, zero, suc, ◌+◌, ◌≤◌}
use mathlib.Core.List.{List}
use mathlib.Core.Path.{◌≡◌}
use native.Mathlib.Omega.{arith}
use lib.ListN.{get_or}
use Rattle.base_format.specs.Operation.{extras, fields_at}
use Rattle.base_format.specs.Written.{operation_fields}
use Rattle.base_format.proofs.Fields.{fields_size}

-- those of its address, and what its opcode has besides
pub fields_long : (file : List ℕ) (width at opcode : ℕ) → opcode ≤ 2 → width + get_or extras opcode 0 ≡ fields_size (operation_fields width (fields_at file width at opcode))
unfolding fields_at
fields_long file width at zero o = omega arith
fields_long file width at (suc zero) o = omega arith
fields_long file width at (suc (suc zero)) o = omega arith
fields_long file width at (suc (suc (suc n))) o = absurd (omega arith)
