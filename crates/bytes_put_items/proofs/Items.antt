-- Laws of the items of a pooled file as bytes: each is an operation with addresses of the version's width, and a frame's count stands in
-- front of its operations.
use Prim.Native.Nat.{ℕ, ◌+◌, ◌≤◌}
use mathlib.Core.Path.{◌≡◌, sym}
use mathlib.Core.List.{List, [], ◌∷◌, ◌++◌}
use native.Mathlib.Omega.{arith}
use borrow.Author.Tests.{ne_eqb}
use lib.ListN.{length, length-append}
use Rattle.base_format.specs.declared.operation.Operation.{Operation}
use Rattle.base_format.specs.Bytes.{u16}
use Rattle.base_format.specs.Operation.{address_width}
use Rattle.base_format.specs.Written.{item_bytes}
use Rattle.base_format.proofs.Sizes.{width_range}
use Rattle.base_format.proofs.Fields.{fields_size_lem}
use Rattle.bytes_read.specs.Put.{put}
use Rattle.bytes_read.proofs.Sequence.{put_prepend}
use Rattle.bytes_put_operation.specs.Operations.{operation_bytes}
use Rattle.bytes_put_operation.proofs.Operations.{operation_long}
use Rattle.bytes_put_items.specs.Items.{size_in, count_bytes}

-- an item of a pooled version is an operation
pub item_is : (version : ℕ) (operation : Operation) → 2 ≤ version → item_bytes version operation ≡ operation_bytes (address_width version) operation
unfolding item_bytes
item_is version operation pooled = rw (ne_eqb version 1 (λ e. omega (arith, e, pooled)))

pub item_long : (version : ℕ) (operation : Operation) → 2 ≤ version → length (item_bytes version operation) ≡ size_in version operation
item_long version operation pooled =
    let range = width_range version in
    rw (item_is version operation pooled) (operation_long (address_width version) operation range.0 range.1)

-- a count that is written in front of the operations that stand
pub put_counted : (count at : ℕ) (operations buffer : List ℕ) → at + (2 + length operations) ≤ length buffer
    → put (count_bytes count) at (put operations (at + 2) buffer) ≡ put (count_bytes count ++ operations) at buffer
put_counted count at operations buffer room =
    let two : length (count_bytes count) ≡ 2 = fields_size_lem (u16 count ∷ []) in
    sym (rw two at (put_prepend (count_bytes count) operations at buffer (rw (length-append, two) room)))
