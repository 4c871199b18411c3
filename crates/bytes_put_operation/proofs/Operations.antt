-- Laws of the operations of a pooled file as bytes: their sizes are those of the table of lengths, and fields that are written one after
-- the other are the operation.
use Prim.Native.Nat.{ℕ, ◌+◌, ◌≤◌}
use mathlib.Core.Path.{◌≡◌, refl, ◌∙◌}
use mathlib.Core.List.{List}
use native.Mathlib.Omega.{arith}
use lib.Dec.{lit≤}
use lib.ListN.{length}
use Rattle.base_format.specs.declared.operation.Operation.{Operation}
use Rattle.base_format.specs.declared.operation.Operation.TheVariants.{Write, Fill, Copy}
use Rattle.base_format.specs.Operation.{address_width, size_of, opcode_of}
use Rattle.base_format.specs.Written.{operation_fields, item_bytes}
use Rattle.base_format.proofs.Sizes.{size_is}
use Rattle.base_format.proofs.Fields.{fields_size, fields_size_lem}
use Rattle.bytes_read.specs.Put.{put}
use Rattle.bytes_put_fields.specs.Fields.{put_fields, Narrow}
use Rattle.bytes_put_fields.proofs.Laid.{put_fields_lem}
use Rattle.bytes_put_operation.specs.Operations.{operation_bytes}

-- the fields of an operation have the size of the table
pub fields_long : (width : ℕ) (operation : Operation) → 3 ≤ width → width ≤ 4 → fields_size (operation_fields width operation) ≡ size_of width (opcode_of operation)
fields_long width (Write target address value) low high = omega (arith, size_is width 0 low high (lit≤ tt))
fields_long width (Fill target address size value) low high = omega (arith, size_is width 1 low high (lit≤ tt))
fields_long width (Copy target address pool source size) low high = omega (arith, size_is width 2 low high (lit≤ tt))

pub operation_long : (width : ℕ) (operation : Operation) → 3 ≤ width → width ≤ 4 → length (operation_bytes width operation) ≡ size_of width (opcode_of operation)
operation_long width operation low high = fields_size_lem (operation_fields width operation) ∙ fields_long width operation low high

-- an operation whose fields are written one after the other, over the width
pub put_operation : (at width : ℕ) (operation : Operation) (buffer : List ℕ) → 3 ≤ width → width ≤ 4 → at + size_of width (opcode_of operation) ≤ length buffer
    → Narrow (operation_fields width operation)
    → put_fields at (operation_fields width operation) buffer ≡ put (operation_bytes width operation) at buffer
put_operation at width operation buffer low high room narrow =
    put_fields_lem at (operation_fields width operation) buffer (omega (arith, fields_long width operation low high)) narrow

-- an item of version 2 is an operation with addresses of 3 bytes
pub item_two : (operation : Operation) → item_bytes 2 operation ≡ operation_bytes 3 operation
unfolding item_bytes address_width
item_two operation = refl
